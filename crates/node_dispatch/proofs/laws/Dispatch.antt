-- What a listed message carries, by its kind, and which rule answers it: a sleeper that refuses (`as-deaf`), else `as-connect` to `as-change`.
use Rattle.std.specs.Prelude.{ℕ, ◌<◌, ◌≡◌, refl, ◌≢◌, ◌⊎◌, Bool, true, false, not, ◌&&◌, ◌||◌}
use Rattle.std.proofs.Math.Path.{sym}
use Rattle.std.proofs.Common.{ap, ◌∙◌}
use Rattle.std.proofs.Math.Logic.{inl, inr}
use Rattle.std.proofs.Math.Bool.{false≢true}
use Rattle.std.proofs.Math.Dec.{eqb}
use borrow.Author.Tests.{ltb-true, eqb-true, eq-eqb, ne_eqb, not-true}
use Rattle.base.proofs.laws.Cond.{bool_cases}
use Rattle.base.specs.Limits.{max_links}
use Rattle.format_message.specs.Msg.{none, initiate}
use Rattle.format_message.specs.Header.{msg_of}
use Rattle.format_message.specs.Listed.{listed_as, is_link}
use Rattle.node.specs.declared.Node.{Node}
use Rattle.node.specs.Work.{Own, Work, ASLEEP, refused}
use Rattle.node.specs.Rules.{awake, on_connect, on_initiate, on_test, on_accept, on_reject, on_report, change_root, unless_asleep, respond_to}
use Rattle.node.proofs.laws.Rules.{asleep-refused, asleep-not}
use Rattle.node_response.specs.declared.Response.{Response}
use Rattle.node_response.specs.Response.{begun}
use Rattle.node_dispatch.specs.Receives.{Fresh}

left-of : (a b : Bool) → (a && b) ≡ true → a ≡ true
left-of true b h = refl
left-of false b h = h

right-of : (a b : Bool) → (a && b) ≡ true → b ≡ true
right-of true b h = h
right-of false b h = absurd (false≢true h)

one_of : (a b : Bool) → (a || b) ≡ true → (a ≡ true) ⊎ (b ≡ true)
one_of true b h = inl refl
one_of false b h = inr h

module _ (level carried find : ℕ) where
  pub listed-level : listed_as 3 level carried find ≡ true → 0 < level
  unfolding listed_as
  listed-level h = ltb-true 0 level (left-of _ _ (left-of _ _ h))

  pub listed-weight : listed_as 6 level carried find ≡ true → (carried < max_links) ⊎ (carried ≡ none)
  unfolding listed_as
  listed-weight h = link (one_of (is_link carried) (eqb carried none) (right-of (eqb level 0 && eqb find 0) _ h))
    where
      link : (is_link carried ≡ true) ⊎ (eqb carried none ≡ true) → (carried < max_links) ⊎ (carried ≡ none)
      link (inl e) = inl (ltb-true carried max_links e)
      link (inr e) = inr (eqb-true carried none e)

pub begun_fresh : {a : Response} {n : Node} → a ≡ begun n → Fresh a
begun_fresh e = record { edge = ap (λ x. x.newmark) e; copies = ap (λ x. x.copies) e; first = ap (λ x. x.first) e; second = ap (λ x. x.second) e }

-- a sleeper refuses all but Connect and Test
module _ (kind status : ℕ) where
  pub hears : (k : ℕ) → eqb k 1 ≡ false → eqb k 3 ≡ false → kind ≡ k → (eqb status ASLEEP && not (eqb kind 1) && not (eqb kind 3)) ≡ false → status ≢ ASLEEP
  hears k a b q h e = false≢true (sym h ∙ rw (eq-eqb _ _ e, q, a, b))

  deaf-parts : (eqb status ASLEEP && not (eqb kind 1) && not (eqb kind 3)) ≡ true → (status ≡ ASLEEP) × (eqb kind 1 ≡ false) × (eqb kind 3 ≡ false)
  deaf-parts h =
      let l = left-of (eqb status ASLEEP && not (eqb kind 1)) (not (eqb kind 3)) h in
      (eqb-true status ASLEEP (left-of _ _ l), not-true _ (right-of (eqb status ASLEEP) _ l), not-true _ (right-of (eqb status ASLEEP && not (eqb kind 1)) _ h))

pub as-initiate : (o : Own) (limit level carried find j : ℕ) (w : Work) → w.node.status ≢ ASLEEP
    → on_initiate o level carried find j w ≡ respond_to o limit (initiate level carried find) j w
unfolding respond_to
as-initiate o limit level carried find j w s = sym (asleep-not w _ s)

-- there is no other kind
module _ (kind level carried find : ℕ) where
  pub zero-unlisted : kind ≡ 0 → listed_as kind level carried find ≡ true → ⊥
  unfolding listed_as
  zero-unlisted e h = false≢true (rw e at h)

  pub rest-unlisted : kind ≢ 1 → kind ≢ 2 → kind ≢ 3 → kind ≢ 4 → kind ≢ 5 → kind ≢ 6 → kind ≢ 7 → listed_as kind level carried find ≡ true → ⊥
  unfolding listed_as
  rest-unlisted a b c d e f g h =
      false≢true (simp (ne_eqb _ _ a, ne_eqb _ _ b, ne_eqb _ _ c, ne_eqb _ _ d, ne_eqb _ _ e, ne_eqb _ _ f, ne_eqb _ _ g) at h)

  -- what the dispatch by kind does
  module _ (o : Own) (limit j : ℕ) (w : Work) where
    pub as-deaf : (eqb w.node.status ASLEEP && not (eqb kind 1) && not (eqb kind 3)) ≡ true → refused w ≡ respond_to o limit (msg_of kind level carried find) j w
    unfolding msg_of respond_to
    as-deaf d =
        let p = deaf-parts kind w.node.status d in
        let no : (r : Work) → refused w ≡ unless_asleep w r = λ r. sym (asleep-refused w r p.0) in
        rw (p.1, p.2)
        (bool_cases (eqb kind 2) (λ e. rw e (no _)) (λ e. rw e
        (bool_cases (eqb kind 4) (λ f. rw f (no _)) (λ f. rw f
        (bool_cases (eqb kind 5) (λ g. rw g (no _)) (λ g. rw g
        (bool_cases (eqb kind 6) (λ h. rw h (no _)) (λ h. rw h (no _)))))))))

    pub as-connect : kind ≡ 1 → on_connect o limit level j (awake o j w) ≡ respond_to o limit (msg_of kind level carried find) j w
    unfolding msg_of respond_to
    as-connect h = rw h

    pub as-test : kind ≡ 3 → on_test o level carried j (awake o j w) ≡ respond_to o limit (msg_of kind level carried find) j w
    unfolding msg_of respond_to
    as-test h = rw h

    module _ (s : w.node.status ≢ ASLEEP) where
      pub as-accept : kind ≡ 4 → on_accept o j w ≡ respond_to o limit (msg_of kind level carried find) j w
      unfolding msg_of respond_to
      as-accept h = rw h (sym (asleep-not w _ s))

      pub as-reject : kind ≡ 5 → on_reject o j w ≡ respond_to o limit (msg_of kind level carried find) j w
      unfolding msg_of respond_to
      as-reject h = rw h (sym (asleep-not w _ s))

      pub as-report : kind ≡ 6 → on_report o carried j w ≡ respond_to o limit (msg_of kind level carried find) j w
      unfolding msg_of respond_to
      as-report h = rw h (sym (asleep-not w _ s))

      pub as-change : kind ≡ 7 → change_root w ≡ respond_to o limit (msg_of kind level carried find) j w
      unfolding msg_of respond_to
      as-change h = rw h (sym (asleep-not w _ s))

  pub msg-initiate : kind ≡ 2 → msg_of kind level carried find ≡ initiate level carried find
  unfolding msg_of
  msg-initiate h = rw h
