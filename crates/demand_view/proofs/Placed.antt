-- A response that is placed in the field is placed in the view: after a wakeup (`view-woken`), a message taken (`view-taken`), a message put back (`view-back`).
use Rattle.std.specs.Prelude.{ℕ, ◌*◌, ◌<◌, ◌≡◌, true, false, List, [], ◌∷◌, ◌++◌}
use Rattle.std.proofs.Common.{sym, ap, ap₂, ◌∙◌, append-nil}
use Rattle.base.specs.Cond.{upd}
use Rattle.base.specs.Pool.{All}
use Rattle.base.proofs.laws.Pool.{All-map}
use Rattle.base.proofs.laws.Keep.{FirstThat}
use Rattle.format_message.specs.Msg.{Msg}
use Rattle.format_word.specs.Word.{link_in}
use Rattle.plan.proofs.laws.Accepted.{Accepted}
use Rattle.plan.specs.Links.{Plan, modules_of, links_of}
use Rattle.node.specs.Work.{Work}
use Rattle.field.specs.Edges.{is_own, own_of, link_of, from, limit_of, marks_in}
use Rattle.field.specs.State.{State, msg_in, posted, placed}
use Rattle.field.specs.Step.{in_queue}
use Rattle.field_laws.proofs.Lists.{WorkOk}
use Rattle.field_laws.proofs.Fits.{sends-pack}
use Rattle.field_laws.proofs.Keeps.{Sized}
use Rattle.field_laws.proofs.Sends.{Packs}
use Rattle.protocol_bridge.proofs.Real.{post, place_in}
use Rattle.protocol_bridge.proofs.Place.{to_pop}
use Rattle.demand_view.proofs.View.{chans, tables, view, place-tables, nodes, nodes-put, marks-put}
use Rattle.demand_view.proofs.Chans.{chans-post, chans-taken, chans-back, chans-split, handed_part, unhanded_part}

module _ (p : Plan) (a : Accepted p) (v : ℕ) (w : Work) (ok : WorkOk (own_of p v) (limit_of p) w) where
  packs : All Packs w.sends
  packs = sends-pack p a v ok.sends

  owns : All (λ x. is_own p v x.edge ≡ true) w.sends
  owns = All-map (λ x h. h.own) ok.sends

  -- x was served, r are the other words: the rest of its channel, cut where it goes when it is put back
  pub rest-cut : (x : ℕ) (s r : List ℕ) → FirstThat (in_queue p v) s x r → link_in x < 2 * links_of p
      → chans p r (from p (link_in x)) (link_of (link_in x)) ≡ handed_part p v x r w.sends ++ unhanded_part p v x r w.sends
  rest-cut x s r o f = chans-split p a v x s r o f w.sends packs owns

  -- marks are of own links only
  module _ (bare : (k : ℕ) → is_own p v k ≡ false → w.mark k ≡ 0) (l : v < modules_of p) (s : State) (size : Sized p s) where
    -- modules and marks are those of the response; the words t have the channels of c with the response's sends
    view-put : (t back : List ℕ) (c : ℕ → ℕ → List Msg) → chans p ((t ++ posted p v w.sends) ++ back) ≡ post c v w.sends
        → view p (placed p v w s t back) ≡ place_in (tables (nodes p s.cells) (marks_in p s.marks) c) v w
    view-put t back c h =
        ap₂ (λ f m. tables f m (chans p ((t ++ posted p v w.sends) ++ back))) (nodes-put p s.cells v w.node l size.cells) (marks-put p s.marks v w.mark size.marks bare)
        ∙ ap (tables (upd (nodes p s.cells) v w.node) (upd (marks_in p s.marks) v w.mark)) h
        ∙ sym (place-tables (nodes p s.cells) (marks_in p s.marks) c v w)

    pub view-woken : view p (placed p v w s s.words []) ≡ place_in (view p s) v w
    view-woken = view-put s.words [] (chans p s.words) (ap (chans p) (append-nil (s.words ++ posted p v w.sends)) ∙ chans-post p v s.words packs owns)

    module _ (x : ℕ) (r : List ℕ) (o : FirstThat (in_queue p v) s.words x r) (f : link_in x < 2 * links_of p) where
      pub view-taken : view p (placed p v w s r [])
          ≡ place_in (to_pop (from p (link_in x)) (link_of (link_in x)) (chans p r (from p (link_in x)) (link_of (link_in x))) (view p s)) v w
      view-taken = view-put r [] _ (ap (chans p) (append-nil (r ++ posted p v w.sends)) ∙ chans-taken p a v x s.words r o f w.sends packs owns)

      pub view-back : view p (placed p v w s r (x ∷ []))
          ≡ place_in (to_pop (from p (link_in x)) (link_of (link_in x)) (handed_part p v x r w.sends ++ (msg_in x ∷ unhanded_part p v x r w.sends)) (view p s)) v w
      view-back = view-put r (x ∷ []) _ (chans-back p a v x s.words r o f w.sends packs owns)
