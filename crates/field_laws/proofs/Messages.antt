-- The messages themselves: the words carry what was sent until it is consumed. For every list of calls from a state in which nothing waits
-- (`times-conserved`, `number-conserved`).
use Rattle.std.specs.Prelude.{ℕ, ◌+◌, ◌≡◌, cond, length, eqb}
use Rattle.std.proofs.Common.{arith, ap₂, ◌∙◌}
use Rattle.std.proofs.Math.Path.{refl, sym, ap, subst}
use mathlib.Core.List.{List, [], ◌∷◌, ◌++◌, append-nil, map, flat_map, map-append}
use Rattle.std.proofs.lemmas.List.{length-map}
use Rattle.base.specs.Cond.{bit}
use Rattle.base.proofs.laws.Cond.{eqb-diff}
use Rattle.base.specs.Loop.{After}
use Rattle.base.specs.Pool.{sum_l}
use Rattle.base.proofs.laws.Pool.{All-here}
use Rattle.base.proofs.laws.Keep.{first_out, first_passes}
use Rattle.format_word.specs.Word.{hand_over}
use Rattle.plan.proofs.laws.Accepted.{Accepted}
use Rattle.plan.specs.Links.{Plan}
use Rattle.field.specs.State.{State, posted}
use Rattle.field.specs.Step.{serve_work, step}
use Rattle.field.specs.Held.{Held, state_of}
use Rattle.field_calls.specs.Call.{Call, after}
use Rattle.field_calls.specs.Trail.{Taken, if_taken, trail, Message, sent_by, carried_by, same_message, times_in, sends_at, sent_in, messages_sent, consumed_in, step_taken, posted_at}
use Rattle.field_laws.proofs.Cases.{refusal-not-0, StepOutcome, took, kept, FieldStep, wake-step, hand-step, serve-step, step-outcome}
use Rattle.field_laws.proofs.Sends.{same-message, posted-carry}
use Rattle.field_laws.proofs.Fits.{sends-pack}
use Rattle.field_laws.proofs.Keeps.{Sound, wake-ok, serve-ok, step_keeps}
use Rattle.field_laws.proofs.Counts.{flat-app, sent_words, consumed_words}
use Rattle.field_laws.proofs.Laid.{Live, live-sound}
use Rattle.field_laws.proofs.After.{list_tells, list_counts}

-- a hand-over changes no message
hand-carries : (w : ℕ) → carried_by (hand_over w) ≡ carried_by w
hand-carries w = same-message (omega arith) (omega arith) (omega arith)

-- the steps l left y: it passes 31, and the words of what they sent carry what was sent
record Worded (p : Plan) (l : List Taken) (y : State) : Type 0 where
  sound : Sound p y
  says : map carried_by (sent_words p l) ≡ sent_in p l

module _ (p : Plan) (a : Accepted p) where
  -- so from every x that passes 31
  abbrev Wording : State → List Taken → State → Type 0
  Wording x l y = Sound p x → Worded p l y

  worded-none : (x : State) → Wording x [] x
  unfolding flat_map
  worded-none x i = record { sound = i; says = refl }

  worded-more : (x y z : State) (l m : List Taken) → Wording x l y → Wording y m z → Wording x (l ++ m) z
  worded-more x y z l m f g i =
      let b = f i in
      let c = g b.sound in
      record {
        sound = c.sound;
        says = ap (map carried_by) (flat-app (posted_at p) l m) ∙ map-append carried_by (sent_words p l) (sent_words p m) ∙ ap₂ ◌++◌ b.says c.says
            ∙ sym (flat-app (λ t. map (sent_by p t.number) (sends_at p t)) l m);
      }

  -- one step, taken
  took-words : (s : State) (kind number : ℕ) (s' : State) → Sound p s → FieldStep p s kind number s'
      → map carried_by (posted_at p (step_taken kind number s)) ≡ map (sent_by p number) (sends_at p (step_taken kind number s))
  unfolding sends_at
  took-words s _ _ s' i (wake-step {v} h) = posted-carry p v (sends-pack p a v (wake-ok p a s i v h.within).sends)
  took-words s _ _ s' i (hand-step h) = refl
  took-words s _ _ s' i (serve-step {v} h) =
      let ok = serve-ok p a s i v h.word h.within (All-here (first_out h.first) i.fits.words) (first_passes h.first) in
      subst (λ x. map carried_by (posted p v (serve_work p v x s).sends) ≡ map (sent_by p v) (serve_work p v x s).sends) h.at
      (posted-carry p v (sends-pack p a v ok.sends))

  worded-one : (t : Taken) → map carried_by (posted_at p t) ≡ map (sent_by p t.number) (sends_at p t) → map carried_by (sent_words p (t ∷ [])) ≡ sent_in p (t ∷ [])
  unfolding flat_map
  worded-one t h = ap (map carried_by) (append-nil (posted_at p t)) ∙ h ∙ sym (append-nil (map (sent_by p t.number) (sends_at p t)))

  step_words : (kind number : ℕ) (s : State) → Wording s (if_taken p kind number s) (step p kind number s).state
  unfolding if_taken
  step_words kind number s i = go (step-outcome p s kind number) (step_keeps p a s i kind number)
    where
      go : {r : After State} → StepOutcome s (FieldStep p s kind number) r → Sound p r.state → Worded p (cond (eqb r.refusal 0) (step_taken kind number s ∷ []) []) r.state
      go (took {s'} h) j = record { sound = j; says = worded-one (step_taken kind number s) (took-words s kind number s' i h) }
      go (kept r h) j = rw (eqb-diff r 0 (refusal-not-0 r h)) (worded-none s i)

  -- the same for every list of calls
  list-words : (cs : List Call) (h : Held) → Live h → h.field.plan ≡ p → Worded p (trail cs h) (state_of (after cs h))
  list-words cs h i e = list_tells p Wording worded-none worded-more step_words cs h i e (subst (λ q. Sound q (state_of h)) e (live-sound h i))

-- a sum over what a list is mapped to; a sum of ones
sum_l-map : {A B : Type 0} (f : B → ℕ) (g : A → B) (l : List A) → sum_l f (map g l) ≡ sum_l (λ x. f (g x)) l
sum_l-map f g [] = refl
sum_l-map f g (x ∷ l) = ap (λ n. f (g x) + n) (sum_l-map f g l)

sum_l-ones : {A : Type 0} (l : List A) → sum_l (λ x. 1) l ≡ length l
sum_l-ones [] = refl
sum_l-ones (x ∷ l) = omega (arith, sum_l-ones l)

-- lists of calls on a field that passes 31 and in which nothing waits
module _ (p : Plan) (a : Accepted p) (cs : List Call) (h : Held) (i : Live h) (e : h.field.plan ≡ p) (none : (state_of h).words ≡ []) where
  abbrev left : List ℕ
  left = (state_of (after cs h)).words

  -- THE LAW, by any weight of messages
  conserved : (f : Message → ℕ) → sum_l f (sent_in p (trail cs h)) ≡ sum_l f (consumed_in p (trail cs h)) + sum_l f (map carried_by left)
  conserved f =
      omega (
        arith,
        (list_counts p cs h i e).words (λ w. f (carried_by w)) (λ w. ap f (hand-carries w)),
        ap (sum_l (λ w. f (carried_by w))) none,
        ap (sum_l f) (sym (list-words p a cs h i e).says) ∙ sum_l-map f carried_by (sent_words p (trail cs h)),
        sum_l-map f carried_by (consumed_words p (trail cs h)),
        sum_l-map f carried_by left,
      )

  -- each message was sent as often as it was consumed and waits
  pub times-conserved : (m : Message) → times_in m (sent_in p (trail cs h)) ≡ times_in m (consumed_in p (trail cs h)) + times_in m (map carried_by left)
  times-conserved m = conserved (λ n. bit (same_message m n))

  -- as many were sent as were consumed and wait
  pub number-conserved : messages_sent p (trail cs h) ≡ length (consumed_in p (trail cs h)) + length left
  number-conserved =
      omega (
        arith,
        conserved (λ n. 1),
        sum_l-ones (sent_in p (trail cs h)),
        sum_l-ones (consumed_in p (trail cs h)),
        sum_l-ones (map carried_by left),
        length-map left carried_by,
      )
