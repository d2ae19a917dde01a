-- A RESTORED FIELD GOES ON AS THE SAVED ONE (`goes_back`): what is restored is what was saved (`restored-whole`), and lent words in another number make no
-- difference (`same_after`).
use Rattle.std.specs.Prelude.{ℕ, ◌-◌, ◌≤◌, ◌≡◌, true, not, length, eqb}
use Rattle.std.proofs.Common.{arith, subst, ◌∙◌}
use Rattle.std.proofs.Math.Path.{refl, sym, ap, ap₂}
use Rattle.std.proofs.Math.Bool.{◌&&◌}
use mathlib.Core.List.{List, [], ◌∷◌, ◌++◌}
use borrow.Author.Tests.{eq-eqb, ne_eqb, le-leb, le-ltb, leb-true}
use Rattle.plan.specs.Links.{Plan}
use Rattle.plan.proofs.laws.Accepted.{accepted}
use Rattle.field.specs.Edges.{ceiling_of}
use Rattle.field.specs.State.{State}
use Rattle.field.specs.Valid.{waiting_in, fits}
use Rattle.field.specs.Held.{Held, layout, state_of, valid, set_up}
use Rattle.field_calls.specs.Call.{Call, does, after, Answer, answers}
use Rattle.field_laws.proofs.Laid.{waited-back, waiting-nonzero, layout-back, laid-length, layout-zeros, valid-parts, Live, live-sound, does-state, does-live, state-of-does, plan-of-does, refusal-of-does}
use Rattle.field_laws.proofs.After.{after-live, after-plan}
use Rattle.field_laws.proofs.Trace.{on_state}
use Rattle.store.specs.Records.{records_in}
use Rattle.store.specs.Names.{name_fits, holds, shown_part}
use Rattle.store.specs.Layout.{record_bytes}
use Rattle.store.specs.Reading.{held_in}
use Rattle.store.specs.Calls.{store_fits, find_refusal, point_of, restore_refusal, restore_point}
use Rattle.store.proofs.laws.Outcomes.{restore-refusal}
use Rattle.store.specs.Tidied.{saved_of}
use Rattle.store.specs.Claims.{laid_in, GoesOn, ComesBack}
use Rattle.store_laws.proofs.Written.{saved-size, saved_read}
use Rattle.store_records.specs.Named.{held_first, shown-first}
use Rattle.store_laws.proofs.Tidy.{setup-live, tidy-kept}
use Rattle.store_claims.proofs.Outcomes.{restore-taken}

-- TWO LISTS OF CALLS ARE ONE

pub after_both : (cs ds : List Call) (h : Held) → after (cs ++ ds) h ≡ after ds (after cs h)
unfolding after
after_both [] ds h = refl
after_both (c ∷ cs) ds h = after_both cs ds (does c h).state

pub answers-both : (cs ds : List Call) (h : Held) → answers (cs ++ ds) h ≡ answers cs h ++ answers ds (after cs h)
unfolding after answers
answers-both [] ds h = refl
answers-both (c ∷ cs) ds h = ap (λ l. record { call = c; refusal = (does c h).refusal } ∷ l) (answers-both cs ds (does c h).state)

-- THE NUMBER OF LENT WORDS

-- no call changes it
does-words : (c : Call) (h : Held) → Live h → length (does c h).state.words ≡ length h.words
does-words c h i =
    let s = (on_state h.field.plan c (state_of h)).state in
    let f = (live-sound (does c h).state (does-live h i c)).fits in
    let e = ap (λ (x : State). length x.words) (state-of-does h i c) in
    let m = ap (λ (x : Held). ceiling_of x.field.plan) (ap (λ r. r.state) (does-state h i c)) in
    let room = leb-true (ceiling_of h.field.plan) (length h.words) (valid-parts h i.valid).1 in
    ap (λ r. length r.state.words) (does-state h i c) ∙ laid-length (length h.words) s.words (omega (arith, f.waiting, f.ceiling))

pub after-words : (cs : List Call) (h : Held) → Live h → length (after cs h).words ≡ length h.words
unfolding after
after-words [] h i = refl
after-words (c ∷ cs) h i = after-words cs (does c h).state (does-live h i c) ∙ does-words c h i

-- two fields of one plan in one state, in lent words of any number: the same calls leave one state, and are answered alike
module _ where
  pub same_after : (cs : List Call) (h g : Held) → Live h → Live g → h.field.plan ≡ g.field.plan → state_of h ≡ state_of g → state_of (after cs h) ≡ state_of (after cs g)
  unfolding after
  same_after [] h g i j e s = s
  same_after (c ∷ cs) h g i j e s =
      same_after cs (does c h).state (does c g).state (does-live h i c) (does-live g j c)
      (plan-of-does h i c ∙ e ∙ sym (plan-of-does g j c))
      (state-of-does h i c ∙ ap₂ (λ p x. (on_state p c x).state) e s ∙ sym (state-of-does g j c))

  same-answers : (cs : List Call) (h g : Held) → Live h → Live g → h.field.plan ≡ g.field.plan → state_of h ≡ state_of g → answers cs h ≡ answers cs g
  unfolding answers
  same-answers [] h g i j e s = refl
  same-answers (c ∷ cs) h g i j e s =
      ap₂ (λ (r : ℕ) (l : List Answer). record { call = c; refusal = r } ∷ l)
      (refusal-of-does h i c ∙ ap₂ (λ p x. (on_state p c x).refusal) e s ∙ sym (refusal-of-does g j c))
      (same-answers cs (does c h).state (does c g).state (does-live h i c) (does-live g j c)
      (plan-of-does h i c ∙ e ∙ sym (plan-of-does g j c))
      (state-of-does h i c ∙ ap₂ (λ p x. (on_state p c x).state) e s ∙ sym (state-of-does g j c)))

module _ (h : Held) (i : Live h) (n : ℕ) (room : ceiling_of h.field.plan ≤ n) where
  abbrev ws : List ℕ
  ws = waiting_in h.words

  short : length ws ≤ n
  short = let f = (live-sound h i).fits in omega (arith, f.waiting, f.ceiling)

  laid-state : state_of (laid_in n h) ≡ state_of h
  laid-state = ap (λ w. record { cells = h.field.cells; marks = h.field.marks; words = w; sent = h.field.sent }) (waited-back (n - length ws) (waiting-nonzero h.words))

  laid-live : Live (laid_in n h)
  unfolding valid
  laid-live =
      let p = h.field.plan in
      let c = valid-parts h i.valid in
      record {
        cells = i.cells;
        marks = i.marks;
        valid =
            ap₂ ◌&&◌
            (ap₂ ◌&&◌ (ap₂ ◌&&◌ (eq-eqb _ _ c.0) (le-leb (ceiling_of p) (length (layout n ws)) (omega (arith, laid-length n ws short, room))))
            (layout-zeros n ws short (waiting-nonzero h.words)))
            (ap (fits p) laid-state ∙ c.3);
      }

-- in as many words as it had, nothing changed
laid_same : (h : Held) → Live h → laid_in (length h.words) h ≡ h
laid_same h i = ap (λ w. record { field = h.field; words = w }) (layout-back h.words (valid-parts h i.valid).2)

-- a live field with the plan and the state of another is that one, laid out in its words
laid-alike : (h g : Held) → Live h → (n : ℕ) → length h.words ≡ n → h.field.plan ≡ g.field.plan → state_of h ≡ state_of g → h ≡ laid_in n g
laid-alike h g i n l p s =
    sym (laid_same h i) ∙ ap₂ (λ k (q : Plan). record { field = record { plan = q; cells = h.field.cells; marks = h.field.marks; sent = h.field.sent }; words = layout k (waiting_in h.words) }) l p
    ∙ ap (λ (x : State). record { field = record { plan = g.field.plan; cells = x.cells; marks = x.marks; sent = x.sent }; words = layout n x.words }) s

-- a name that shows a record is held
held-shown : (name s : List ℕ) (h : Held) → shown_part name s ≡ record_bytes name h → holds name s ≡ true
held-shown name s h e =
    held_first name (records_in s) ∙ ap (λ t. not (eqb (length t) 0)) (sym (shown-first name s) ∙ e)
    ∙ ap not (ne_eqb (length (record_bytes name h)) 0 (λ z. omega (arith, saved-size name h)))

-- RESTORED

module _ (p : Plan) (lent : List ℕ) (z : (set_up p lent).refusal ≡ 0) (before : List Call) (name s words : List ℕ) where
  abbrev start : Held
  start = (set_up p lent).state

  abbrev saved : Held
  saved = after before start

  saved-live : Live saved
  saved-live = after-live before start (setup-live p lent z)

  module _ (e : shown_part name s ≡ record_bytes name saved) where
    -- the point is the saved field, all of it, and the words that waited
    pub point-is : point_of name s ≡ record { field = saved.field; words = waiting_in saved.words }
    unfolding saved_of
    point-is = ap held_in e ∙ saved_read name saved (accepted _ (valid-parts saved saved-live.valid).0) ∙ ap (λ f. record { field = f; words = waiting_in saved.words }) (tidy-kept p lent z before)

    -- found and with room, it is restored
    pub restore-ready : store_fits s ≡ true → name_fits name ≡ true → length words ≡ length saved.words → (restore_point name s words).refusal ≡ 0
    unfolding restore_refusal find_refusal
    restore-ready f n l = restore-refusal name s words ∙ rw (
      f,
      n,
      held-shown name s saved e,
      le-ltb (length words) (ceiling_of (point_of name s).field.plan) (omega (arith, l, ap (λ (h : Held). ceiling_of h.field.plan) point-is, leb-true (ceiling_of saved.field.plan) (length saved.words) (valid-parts saved saved-live.valid).1)),
    ) refl

    module _ (r : (restore_point name s words).refusal ≡ 0) where
      restored-is : (restore_point name s words).state ≡ laid_in (length words) saved
      restored-is = (restore-taken name s words r).left ∙ ap (λ (h : Held). record { field = h.field; words = layout (length words) h.words }) point-is

      -- in as many words, all of it
      pub restored-whole : length words ≡ length saved.words → (restore_point name s words).state ≡ saved
      restored-whole n = restored-is ∙ ap (λ k. laid_in k saved) n ∙ laid_same saved saved-live

      restored-room : ceiling_of saved.field.plan ≤ length words
      restored-room = omega (arith, (restore-taken name s words r).room, ap (λ (h : Held). ceiling_of h.field.plan) point-is)

      module _ (since : List Call) where
        abbrev back : Held
        back = laid_in (length words) saved

        back-live : Live back
        back-live = laid-live saved saved-live (length words) restored-room

        back-state : state_of back ≡ state_of saved
        back-state = laid-state saved saved-live (length words) restored-room

        as_many : length back.words ≡ length start.words → length words ≡ length saved.words
        as_many n = omega (arith, n, after-words before start (setup-live p lent z), laid-length (length words) (waiting_in saved.words) (short saved saved-live (length words) restored-room))

        same-plan : (after since back).field.plan ≡ (after (before ++ since) start).field.plan
        same-plan = after-plan since back back-live ∙ sym (after-plan since saved saved-live) ∙ ap (λ (h : Held). h.field.plan) (sym (after_both before since start))

        same-state : state_of (after since back) ≡ state_of (after (before ++ since) start)
        same-state = same_after since back saved back-live saved-live refl back-state ∙ ap state_of (sym (after_both before since start))

        goes-on : GoesOn start back before since
        goes-on = record {
          is = laid-alike (after since back) (after (before ++ since) start) (after-live since back back-live) (length back.words) (after-words since back back-live) same-plan same-state;
          answered = answers-both before since start ∙ ap (λ l. answers before start ++ l) (sym (same-answers since back saved back-live saved-live refl back-state));
          same = λ n. ap (after since) (ap (λ k. laid_in k saved) (as_many n) ∙ laid_same saved saved-live) ∙ sym (after_both before since start);
        }

-- THE CLAIM
pub goes_back : ComesBack
goes_back p lent z before since name s words e r =
    subst (λ h. GoesOn (set_up p lent).state h before since) (sym (restored-is p lent z before name s words e r)) (goes-on p lent z before name s words e r since)
