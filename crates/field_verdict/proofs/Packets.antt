-- The messages of a response that stays within document 01's lists can be sent (`first-ok`, `second-ok`).
use Prim.Native.Nat.{ℕ}
use Rattle.std.specs.Prelude.{Option, Some, None, IfSome}
use mathlib.Core.List.{List, [], ◌∷◌, ◌++◌}
use Rattle.base.specs.Pool.{All, nil, con}
use Rattle.plan.specs.Links.{Plan}
use Rattle.plan.proofs.laws.Accepted.{Accepted}
use Rattle.node.specs.Work.{Send}
use Rattle.node_response.specs.declared.Packet.{Packet}
use Rattle.node_response.specs.declared.Response.{Response}
use Rattle.node_response.specs.Response.{packet_sends, work_of, copies_of}
use Rattle.field.specs.Edges.{own_of, limit_of}
use Rattle.field_laws.proofs.Lists.{SendOk}
use Rattle.field_laws.proofs.Sends.{Packs}
use Rattle.field_laws.proofs.Fits.{sends-pack}
use Rattle.field_place.specs.Posted.{PacketOk}

module _ {A : Type 0} {P : A → Type 0} where
  all_left : (xs ys : List A) → All P (xs ++ ys) → All P xs
  all_left [] ys h = nil
  all_left (x ∷ xs) ys (con h t) = con h (all_left xs ys t)

  all_right : (xs ys : List A) → All P (xs ++ ys) → All P ys
  all_right [] ys h = h
  all_right (x ∷ xs) ys (con h t) = all_right xs ys t

packet-ok : (x : Option Packet) → All Packs (packet_sends x) → IfSome x PacketOk
packet-ok None h = tt
packet-ok (Some x) (con h t) = record { edge = h.small; listed = h.listed }

module _ (p : Plan) (ok : Accepted p) (v : ℕ) (m : ℕ → ℕ) (cs : List Send) (a : Response) (h : All (SendOk (own_of p v) (limit_of p)) (work_of m cs a).sends) where
  both : All Packs (packet_sends a.first ++ packet_sends a.second)
  both = all_right (copies_of a.copies cs) (packet_sends a.first ++ packet_sends a.second) (sends-pack p ok v h)

  pub first-ok : IfSome a.first PacketOk
  first-ok = packet-ok a.first (all_left (packet_sends a.first) (packet_sends a.second) both)

  pub second-ok : IfSome a.second PacketOk
  second-ok = packet-ok a.second (all_right (packet_sends a.first) (packet_sends a.second) both)
