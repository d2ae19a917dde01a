-- The first half of a round: every directed link hands over all that it holds. No hand-over is refused (`handing`), and afterwards every word is in a queue
-- (`all-handed`).
use Rattle.std.specs.Prelude.{ℕ, suc, ◌+◌, ◌*◌, ◌/◌, ◌^◌, ◌<◌, ◌≡◌, refl, ◌≢◌, true, false, not, ◌&&◌, List, [], ◌∷◌, ◌++◌, length, eqb}
use Rattle.std.proofs.Common.{arith, not-suc-le-zero, sym, ap, subst, ◌∙◌, append-nil, length-append, eqb-true, eq-eqb}
use Rattle.base.proofs.laws.Cond.{bool_cases}
use Rattle.base.proofs.laws.Search.{lt-suc-cases}
use Rattle.base.proofs.laws.Loop.{Ok, loop-ok}
use Rattle.base.specs.Pool.{All, nil, con, Out, here, there}
use Rattle.base.proofs.laws.Pool.{All-here}
use Rattle.base.specs.Keep.{keep}
use Rattle.base.proofs.laws.Keep.{no_length, keep-yes, keep-app, keep-none, keep-no, first_out, first_passes, head_of, others}
use Rattle.format_word.specs.Word.{header_in, carried_in, link_in, handed_in, shaped, hand_over}
use Rattle.format_word.proofs.laws.Word.{Unpacked, over}
use Rattle.plan.proofs.laws.Accepted.{Accepted}
use Rattle.plan.specs.Links.{Plan, links_of}
use Rattle.field.specs.State.{State}
use Rattle.field.specs.Step.{in_air, hand, step}
use Rattle.field.specs.Valid.{word_fits}
use Rattle.field_calls.specs.Rounds.{hand_turn, hand_phase}
use Rattle.field_laws.proofs.Cases.{hand-outcome, took_it, hand-fine}
use Rattle.field_laws.proofs.Chan.{air-parts, made, not_right}
use Rattle.field_laws.proofs.Fits.{word-shaped, word-link}
use Rattle.field_laws.proofs.Keeps.{Sound, step_keeps, out-length}
use Rattle.field_roundlaws.proofs.Progress.{Still}
use Rattle.field_roundlaws.proofs.Calm.{Calm, many-keep, still-same, still-on}

-- ---- lists

pub all_split : {B : ℕ → Type 0} (l : List ℕ) {m : List ℕ} → All B (l ++ m) → All B l × All B m
all_split [] h = (nil, h)
all_split (x ∷ l) (con h t) = let r = all_split l t in (con h r.0, r.1)

pub all-out : {B : ℕ → Type 0} {l r : List ℕ} {x : ℕ} → Out l x r → B x → All B r → All B l
all-out here b t = con b t
all-out (there o) b (con h t) = con h (all-out o b t)

pub all_one : {B : ℕ → Type 0} {x : ℕ} → All B (x ∷ []) → B x
all_one (con h t) = h

-- ---- one word handed over

module _ (x : ℕ) (shape : shaped x ≡ true) where
  raised : Unpacked (header_in x) (carried_in x) (link_in x) 1 (hand_over x)
  raised = over x (eqb-true (x / 2 ^ 41) 1 shape)

  pub raised-handed : handed_in (hand_over x) ≡ true
  raised-handed = eq-eqb _ 1 raised.handed

  not-air : (e : ℕ) → in_air e (hand_over x) ≡ false
  not-air e = ap (λ b. not b && eqb (link_in (hand_over x)) e) raised-handed

-- B: a property of words that a hand-over does not give
module _ (p : Plan) (a : Accepted p) (Good : State → Type 0) (calm : Calm p Good) (B : ℕ → Type 0) (lowered : (x : ℕ) → shaped x ≡ true → B (hand_over x) → B x) where
  -- after j hand-overs of link d's turn, which began at y
  record Turn (d : ℕ) (y : State) (j : ℕ) (z : State) : Type 0 where
    sound : Sound p z
    good : Good z
    still : Still y z
    own : j + length (keep (in_air d) z.words) ≡ length (keep (in_air d) y.words)
    other : (e : ℕ) → d ≢ e → keep (in_air e) z.words ≡ keep (in_air e) y.words
    long : length z.words ≡ length y.words
    back : All B z.words → All B y.words

  module _ (d : ℕ) (y : State) (z : State) (l : d < 2 * links_of p) where
    sound-on : Sound p z → Sound p (hand p d z).state
    unfolding step
    sound-on i = step_keeps p a z i 2 d

    good-on : Sound p z → Good z → Good (hand p d z).state
    unfolding step
    good-on i g = calm.keeps 2 d z i g

    turn_on : (j : ℕ) → j < length (keep (in_air d) y.words) → Turn d y j z → Ok (Turn d y (suc j)) (hand p d z)
    turn_on j less t =
        let fine = hand-fine p z d l (omega (arith, t.own)) in
        let h = took_it (hand-outcome p z d) fine in
        let x = h.word in
        let r = h.rest in
        let s = t.sound in
        let f = All-here (first_out h.first) s.fits.words in
        let shape = word-shaped p x f in
        let words : (hand p d z).state.words ≡ r ++ (hand_over x ∷ []) = ap (λ (q : State). q.words) h.is in
        let kept : (e : ℕ) → keep (in_air e) (hand p d z).state.words ≡ keep (in_air e) r =
        λ e. ap (keep (in_air e)) words ∙ keep-app (in_air e) r (hand_over x ∷ []) ∙ ap (λ m. keep (in_air e) r ++ m) (keep-none (in_air e) (hand_over x) (not-air x shape e)) ∙ append-nil (keep (in_air e) r) in
        let head : keep (in_air d) z.words ≡ x ∷ keep (in_air d) r = head_of (in_air d) (λ w q. q) (first_passes h.first) h.first in
        record {
          fine = fine;
          holds = record {
            sound = sound-on s;
            good = good-on s t.good;
            still = still-on t.still (record { cells = ap (λ (q : State). q.cells) h.is; marks = ap (λ (q : State). q.marks) h.is; sent = ap (λ (q : State). q.sent) h.is });
            own = omega (arith, t.own, ap length head, ap length (kept d));
            other = λ e n. kept e ∙ sym (others (in_air e) (apart e n x (air-parts d x (first_passes h.first)).1) h.first) ∙ t.other e n;
            long = omega (arith, t.long, ap length words, length-append r (hand_over x ∷ []), out-length (first_out h.first));
            back = λ b. t.back (let q = all_split r (subst (All B) words b) in all-out (first_out h.first) (lowered x shape (all_one q.1)) q.0);
          };
        }
      where
        apart : (e : ℕ) → d ≢ e → (x : ℕ) → link_in x ≡ d → in_air e x ≡ false
        apart e n x q = not_right (not (handed_in x)) (link_in x) e (λ r. n (sym q ∙ r))

  -- the whole turn of link d
  turn-all : (d : ℕ) (y : State) → d < 2 * links_of p → Sound p y → Good y → Ok (Turn d y (length (keep (in_air d) y.words))) (hand_turn p d y)
  unfolding hand_turn
  turn-all d y l i g = rw (many-keep (in_air d) y.words)
      (loop-ok (Turn d y) (length (keep (in_air d) y.words)) (λ j. hand p d) y
      (record { sound = i; good = g; still = still-same y; own = omega arith; other = λ e n. refl; long = refl; back = λ b. b })
      (λ j z less t. turn_on d y z l j less t))

  -- after the turns of links 0 to k - 1
  pub record Handing (f : State) (k : ℕ) (z : State) : Type 0 where
    pub sound : Sound p z
    pub good : Good z
    pub still : Still f z
    pub empty : (e : ℕ) → e < k → keep (in_air e) z.words ≡ []
    pub long : length z.words ≡ length f.words
    pub back : All B z.words → All B f.words

  phase-on : (f : State) (k : ℕ) (y : State) → k < 2 * links_of p → Handing f k y → Ok (Handing f (suc k)) (hand_turn p k y)
  phase-on f k y l t =
      let r = turn-all k y l t.sound t.good in
      let u = r.holds in
      record {
        fine = r.fine;
        holds = record {
          sound = u.sound;
          good = u.good;
          still = still-on t.still u.still;
          empty = λ e less. lt-suc-cases e k less
              (λ q. subst (λ i. keep (in_air i) (hand_turn p k y).state.words ≡ []) (sym q) (no_length _ (omega (arith, u.own))))
              (λ lt. u.other e (λ q. omega arith) ∙ t.empty e lt);
          long = u.long ∙ t.long;
          back = λ b. t.back (u.back b);
        };
      }

  -- THE LAW of the first half
  pub handing : (f : State) → Sound p f → Good f → Ok (Handing f (2 * links_of p)) (hand_phase p f)
  handing f i g = loop-ok (Handing f) (2 * links_of p) (hand_turn p) f
      (record { sound = i; good = g; still = still-same f; empty = λ e l. absurd (not-suc-le-zero l); long = refl; back = λ b. b })
      (λ k y l t. phase-on f k y l t)

-- every word was handed over then
pub all-handed : (p : Plan) (l : List ℕ) → All (λ w. word_fits p w ≡ true) l → ((e : ℕ) → e < 2 * links_of p → keep (in_air e) l ≡ []) → All (λ w. handed_in w ≡ true) l
all-handed p [] f h = nil
all-handed p (x ∷ l) (con f t) h = con (bool_cases (handed_in x) (λ e. e)
    (λ e. absurd (cons-nil (sym (keep-yes (in_air (link_in x)) x l (made (not (handed_in x)) (link_in x) (link_in x) (ap not e) refl)) ∙ h (link_in x) (word-link p x f)))))
    (all-handed p l t (λ e less. rest e (h e less)))
  where
    cons-nil : {y : ℕ} {m : List ℕ} → y ∷ m ≡ [] → ⊥
    cons-nil {y} {m} q = omega (arith, ap length q)

    rest : (e : ℕ) → keep (in_air e) (x ∷ l) ≡ [] → keep (in_air e) l ≡ []
    rest e q = bool_cases (in_air e x) (λ b. absurd (cons-nil (sym (keep-yes (in_air e) x l b) ∙ q))) (λ b. sym (keep-no (in_air e) x l b) ∙ q)
