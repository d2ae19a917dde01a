-- What a response asks of the field and of the message: values that are in document 01's lists. The check for 31 gives it.
use Rattle.std.specs.Prelude.{ℕ, ◌<◌, ◌≡◌, ◌⊎◌, true, false, None}
use Rattle.base.specs.None.{none}
use Rattle.base.specs.Limits.{max_links}
use Rattle.format_message.specs.Msg.{Msg}
use Rattle.format_message.specs.Listed.{Listed}
use Rattle.plan.specs.Links.{Plan}
use Rattle.field.specs.Edges.{is_own}
use Rattle.node.specs.declared.Node.{Node}
use Rattle.node_response.specs.declared.Response.{Response}

-- node n, which is v, receives m: a listed message, over an edge of its own. The best edge is an own edge or none, the best weight an edge
-- or none.
pub record Receives (p : Plan) (v edge : ℕ) (m : Msg) (n : Node) : Type 0 where
  pub mine : is_own p v edge ≡ true
  pub message : Listed m
  pub best : (n.best ≡ none) ⊎ (is_own p v n.best ≡ true)
  pub weight : (n.weight < max_links) ⊎ (n.weight ≡ none)

-- nothing is done yet
pub record Fresh (a : Response) : Type 0 where
  pub edge : a.newmark ≡ None
  pub copies : a.copies ≡ false
  pub first : a.first ≡ None
  pub second : a.second ≡ None
