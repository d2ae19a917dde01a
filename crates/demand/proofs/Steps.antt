-- EVERY STEP, taken or refused, leaves a good state good, and 32 and 33 refuse none (`step-fine`).
use Rattle.std.specs.Prelude.{ℕ, ◌+◌, ◌*◌, ◌≤◌, ◌<◌, ◌≡◌, ◌≢◌, not, cond, List, [], ◌∷◌, ◌++◌, leb}
use Rattle.std.proofs.Common.{arith, sym, ap, subst, ◌∙◌, ⊎_elim}
use Rattle.std.proofs.Math.Path.{refl}
use Rattle.std.proofs.Math.ListN.{length}
use borrow.Author.Tests.{leb-false, eq-eqb, ne_eqb, le-ltb}
use Rattle.base.proofs.laws.Cond.{bool_cases, eqb-cases, by-eq, eqb-diff}
use Rattle.base.specs.Loop.{taken_to, refused_by}
use Rattle.base.proofs.laws.Pool.{All-here}
use Rattle.base.specs.Keep.{place}
use Rattle.base.proofs.laws.Keep.{FirstThat, first_out, first_passes, place-first}
use Rattle.format_message.specs.Msg.{Msg}
use Rattle.format_word.specs.Word.{link_in, hand_over}
use Rattle.plan.proofs.laws.Accepted.{Accepted}
use Rattle.plan.specs.Links.{Plan, modules_of, links_of}
use Rattle.node.specs.Work.{Work, ASLEEP, BACK, REFUSED}
use Rattle.node.specs.Rules.{respond, wakes}
use Rattle.field.specs.Edges.{own_of, link_of, from, limit_of, ceiling_of, marks_in}
use Rattle.field.specs.State.{State, node_at, msg_in, placed}
use Rattle.field.specs.Step.{in_air, in_queue, carry_out, wake_work, wake, hand, serve_work, back_of, serve, step}
use Rattle.field_laws.proofs.Chan.{queue-parts}
use Rattle.field_laws.proofs.Lists.{WorkOk}
use Rattle.field_laws.proofs.Fits.{word-link, word-shaped}
use Rattle.field_laws.proofs.Cases.{HandedOver}
use Rattle.field_laws.proofs.Keeps.{Sound, wake-ok, serve-ok}
use Rattle.protocol.specs.Network.{Edge}
use Rattle.protocol_bridge.proofs.Real.{Real, real}
use Rattle.protocol_bridge.proofs.Place.{to_pop}
use Rattle.protocol_bridge.proofs.Fin.{st-is}
use Rattle.protocol_bridge.proofs.Bridge.{response}
use Rattle.protocol_bridge.proofs.Reached.{after-fits, wake-after, respond-after, AfterResponse}
use Rattle.demand_view.proofs.Net.{net, ends_of}
use Rattle.demand_view.proofs.View.{view, tables, nodes, chans}
use Rattle.demand_view.proofs.Chans.{chans-hand, chans-head, handed_part, unhanded_part}
use Rattle.demand_view.proofs.Placed.{view-woken, view-taken, view-back, rest-cut}
use Rattle.demand.proofs.Good.{Good, node-shown, rule-is, no-mark, good-after}
use Rattle.demand.proofs.Fine.{Fine}

module _ (p : Plan) (a : Accepted p) (s : State) (i : Sound p s) (g : Good p a s) where
  -- refused by another number
  other : (r : ℕ) → 41 ≤ r → Fine p a (refused_by r s)
  other r l = record { good = g; no32 = λ e. omega arith; no33 = λ e. omega arith }

  done : (s' : State) → Good p a s' → Fine p a (taken_to s')
  done s' h = record { good = h; no32 = λ e. omega arith; no33 = λ e. omega arith }

  -- a response that is not refused, for whose messages there is room
  carried-out : (v : ℕ) (w : Work) (words back : List ℕ) → w.answer ≢ REFUSED → s.sent + length w.sends ≤ ceiling_of p
      → Good p a (placed p v w s words back) → Fine p a (carry_out p v w s words back)
  unfolding carry_out
  carried-out v w words back n l h = rw (ne_eqb w.answer REFUSED n, le-ltb (ceiling_of p) (s.sent + length w.sends) l) (done _ h)

  -- ---- wake

  woken : (v : ℕ) → v < modules_of p → (node_at s v).status ≡ ASLEEP → Fine p a (carry_out p v (wake_work p v s) s s.words [])
  woken v l z =
      let w = wake_work p v s in
      let f : AfterResponse (net p a) (view p s) v 0 s.sent w =
      subst (λ r. AfterResponse (net p a) r v 0 s.sent w) (g.is)
      (subst (AfterResponse (net p a) (real g.at) v 0 s.sent) (rule-is p a s g v (λ o m. wakes o (node_at s v) m))
      (wake-after (g.reach) (g.idle) (node-shown p a s g v l) l (st-is (node-shown p a s g v l) ∙ z))) in
      carried-out v w s.words [] (λ e. omega (arith, f.answer)) (after-fits f)
      (good-after p a s g f (placed p v w s s.words []) refl (view-woken p a v w (wake-ok p a s i v l) (no-mark p a s g f) l s i.sized))

  wake-fine : (v : ℕ) → Fine p a (wake p v s)
  unfolding wake
  wake-fine v = bool_cases (leb (modules_of p) v)
      (λ b. rw b (other 41 (omega arith)))
      (λ b. rw b (eqb-cases (node_at s v).status ASLEEP (λ t. Fine p a (cond (not t) (refused_by 43 s) (carry_out p v (wake_work p v s) s s.words [])))
      (λ e. woken v (leb-false _ _ b) e)
      (λ n. other 43 (omega arith))))

  -- ---- hand over: the same state of the protocol

  handed : (d : ℕ) (s' : State) → HandedOver p d s s' → Good p a s'
  handed d s' h =
      let x = h.word in
      let e : chans p (h.rest ++ (hand_over x ∷ [])) ≡ chans p s.words = chans-hand p d x s.words h.rest h.first (word-shaped p x (All-here (first_out h.first) i.fits.words)) in
      subst (Good p a) (sym h.is)
      (record { at = g.at; is = g.is ∙ ap (tables (nodes p s.cells) (marks_in p s.marks)) (sym e); idle = g.idle; reach = g.reach })

  hand-fine : (d : ℕ) → Fine p a (hand p d s)
  unfolding hand
  hand-fine d = bool_cases (leb (2 * links_of p) d)
      (λ b. rw b (other 42 (omega arith)))
      (λ b. rw b (bool_cases (leb (length s.words) (place (in_air d) s.words))
      (λ c. rw c (other 44 (omega arith)))
      (λ c. rw c (done _ (handed d _
      (record { within = leb-false _ _ b; word = _; rest = _; first = place-first (in_air d) s.words 0 (leb-false _ _ c); is = refl }))))))

  -- ---- serve

  -- x, the first word of v's queue, is served; r are the other words
  module _ (v : ℕ) (l : v < modules_of p) (x : ℕ) (r : List ℕ) (o : FirstThat (in_queue p v) s.words x r) where
    abbrev u : ℕ
    u = from p (link_in x)

    abbrev k : ℕ
    k = link_of (link_in x)

    abbrev w : Work
    w = serve_work p v x s

    fits : link_in x < 2 * links_of p
    fits = word-link p x (All-here (first_out o) i.fits.words)

    ends : Edge (net p a) k u v
    ends = subst (λ y. Edge (net p a) k u y) (queue-parts p v x (first_passes o)).1 (ends_of p a (link_in x) fits)

    head : g.at.ch u k ≡ msg_in x ∷ chans p r u k
    head = ap (λ (t : Real). t.ch u k) (g.is) ∙ chans-head p a v x s.words r o fits

    ok : WorkOk (own_of p v) (limit_of p) w
    ok = serve-ok p a s i v x l (All-here (first_out o) i.fits.words) (first_passes o)

    same : response (net p a) (g.at) (node_at s v) v k (msg_in x) ≡ w
    same = rule-is p a s g v (λ y m. respond y (limit_of p) (msg_in x) k (node_at s v) m)

    -- the bridge's steps, told of the field
    told : (c : ℕ) (t : List Msg) → AfterResponse (net p a) (to_pop u k t (real g.at)) v c s.sent (response (net p a) (g.at) (node_at s v) v k (msg_in x))
        → AfterResponse (net p a) (to_pop u k t (view p s)) v c s.sent w
    told c t f = subst (λ y. AfterResponse (net p a) (to_pop u k t y) v c s.sent w) (g.is) (subst (AfterResponse (net p a) (to_pop u k t (real g.at)) v c s.sent) same f)

    back_none : w.answer ≢ BACK → back_of w x ≡ []
    unfolding back_of
    back_none n = rw (ne_eqb w.answer BACK n) refl

    back_one : w.answer ≡ BACK → back_of w x ≡ x ∷ []
    unfolding back_of
    back_one e = rw (eq-eqb w.answer BACK e) refl

    consumed : AfterResponse (net p a) (to_pop u k (chans p r u k) (view p s)) v 0 s.sent w → Fine p a (carry_out p v w s r (back_of w x))
    consumed f =
        subst (λ b. Fine p a (carry_out p v w s r b)) (sym (back_none (λ e. omega (arith, f.answer))))
        (carried-out v w r [] (λ e. omega (arith, f.answer)) (after-fits f)
        (good-after p a s g f (placed p v w s r []) refl (view-taken p a v w ok (no-mark p a s g f) l s i.sized x r o fits)))

    put-back : AfterResponse (net p a) (to_pop u k (handed_part p v x r w.sends ++ (msg_in x ∷ unhanded_part p v x r w.sends)) (view p s)) v 1 s.sent w
        → Fine p a (carry_out p v w s r (back_of w x))
    put-back f =
        subst (λ b. Fine p a (carry_out p v w s r b)) (sym (back_one (f.answer)))
        (carried-out v w r (x ∷ []) (λ e. omega (arith, f.answer)) (after-fits f)
        (good-after p a s g f (placed p v w s r (x ∷ [])) refl (view-back p a v w ok (no-mark p a s g f) l s i.sized x r o fits)))

    served : Fine p a (carry_out p v w s r (back_of w x))
    served = ⊎_elim
        (λ f. consumed (told 0 (chans p r u k) f))
        (λ t. put-back (told 1 _ (t.1 (handed_part p v x r w.sends) (unhanded_part p v x r w.sends) (rest-cut p a v w ok x s.words r o fits))))
        (respond-after (g.reach) (g.idle) (node-shown p a s g v l) ends head)

  serve-fine : (v : ℕ) → Fine p a (serve p v s)
  unfolding serve
  serve-fine v = bool_cases (leb (modules_of p) v)
      (λ b. rw b (other 41 (omega arith)))
      (λ b. rw b (bool_cases (leb (length s.words) (place (in_queue p v) s.words))
      (λ c. rw c (other 45 (omega arith)))
      (λ c. rw c (served v (leb-false _ _ b) _ _ (place-first (in_queue p v) s.words 0 (leb-false _ _ c))))))

  -- THE LAW
  pub step-fine : (kind number : ℕ) → Fine p a (step p kind number s)
  unfolding step
  step-fine kind number = by-eq kind 1
      (λ e. rw e (wake-fine number))
      (λ n₁. rw (eqb-diff kind 1 n₁) (by-eq kind 2
      (λ e. rw e (hand-fine number))
      (λ n₂. rw (eqb-diff kind 2 n₂) (by-eq kind 3
      (λ e. rw e (serve-fine number))
      (λ n₃. rw (eqb-diff kind 3 n₃) (other 54 (omega arith)))))))
