-- The channel of a directed link: its handed-over words in store order, then its others. Laws connect it with the store: a hand-over (`hand-chan`), a word
-- taken (`take_own`, `take-other`), put back (`back-own`, `back-other`), sent (`chan-down`).
use Rattle.std.specs.Prelude.{ℕ, ◌/◌, ◌^◌, ◌≡◌, refl, ◌≢◌, Bool, true, false, ◌&&◌, eqb}
use Rattle.std.proofs.Math.Path.{sym, ap, ap₂}
use Rattle.std.proofs.Common.{subst, ◌∙◌, true≢false, eqb-true, eq-eqb}
use Rattle.std.proofs.Math.Bool.{not, and-eq-true_iff}
use mathlib.Core.List.{List, [], ◌∷◌, ◌++◌, map, append_assoc, append-nil}
use Rattle.base.proofs.laws.Cond.{bool_cases, eqb-diff, by-eq}
use Rattle.base.specs.Keep.{keep}
use Rattle.base.proofs.laws.Keep.{keep-app, keep_one, keep-none, FirstThat, first_passes, head_of, others}
use Rattle.format_message.specs.Msg.{Msg}
use Rattle.format_message.specs.Header.{kind_at, level_at, find_at, msg_of}
use Rattle.format_word.specs.Word.{header_in, carried_in, link_in, handed_in, shaped, hand_over}
use Rattle.format_word.proofs.laws.Word.{Unpacked, over}
use Rattle.plan.specs.Links.{Plan}
use Rattle.field.specs.Edges.{dest}
use Rattle.field.specs.State.{msg_in}
use Rattle.field.specs.Step.{in_air, in_queue}

-- a word of d that was handed over; `in_air d` are the others of d
abbrev pub is_up : ℕ → ℕ → Bool
is_up d w = handed_in w && eqb (link_in w) d

abbrev pub msgs : List ℕ → List Msg
msgs l = map msg_in l

abbrev pub ups : ℕ → List ℕ → List Msg
ups d s = msgs (keep (is_up d) s)

abbrev pub downs : ℕ → List ℕ → List Msg
downs d s = msgs (keep (in_air d) s)

unfoldable pub chan : ℕ → List ℕ → List Msg
chan d s = ups d s ++ downs d s

-- ---- tests on one word

-- a conjunction with a test for a number, taken apart and put together
both : (b : Bool) (x d : ℕ) → (b && eqb x d) ≡ true → (b ≡ true) × (x ≡ d)
both b x d e = let a = (and-eq-true_iff b (eqb x d)).0 e in (a.0, eqb-true x d a.1)

pub made : (b : Bool) (x d : ℕ) → b ≡ true → x ≡ d → (b && eqb x d) ≡ true
made b x d e q = ap₂ ◌&&◌ e (eq-eqb x d q)

pub not_left : (b : Bool) (x d : ℕ) → b ≡ false → (b && eqb x d) ≡ false
not_left b x d e = rw e

pub not_right : (b : Bool) (x d : ℕ) → x ≢ d → (b && eqb x d) ≡ false
not_right true x d n = eqb-diff x d n
not_right false x d n = refl

not_is : (b : Bool) → not b ≡ true → b ≡ false
not_is true e = absurd (true≢false (sym e))
not_is false e = refl

pub up-parts : (d w : ℕ) → is_up d w ≡ true → (handed_in w ≡ true) × (link_in w ≡ d)
up-parts d w e = both (handed_in w) (link_in w) d e

pub queue-parts : (p : Plan) (v w : ℕ) → in_queue p v w ≡ true → (handed_in w ≡ true) × (dest p (link_in w) ≡ v)
queue-parts p v w e = both (handed_in w) (dest p (link_in w)) v e

pub air-parts : (d w : ℕ) → in_air d w ≡ true → (handed_in w ≡ false) × (link_in w ≡ d)
air-parts d w e = let a = both (not (handed_in w)) (link_in w) d e in (not_is (handed_in w) a.0, a.1)

-- ---- more words at the end

msgs-app : (s t : List ℕ) → msgs (s ++ t) ≡ msgs s ++ msgs t
msgs-app [] t = refl
msgs-app (x ∷ s) t = ap (λ l. msg_in x ∷ l) (msgs-app s t)

pub ups-app : (d : ℕ) (s t : List ℕ) → ups d (s ++ t) ≡ ups d s ++ ups d t
ups-app d s t = ap msgs (keep-app (is_up d) s t) ∙ msgs-app (keep (is_up d) s) (keep (is_up d) t)

pub downs-app : (d : ℕ) (s t : List ℕ) → downs d (s ++ t) ≡ downs d s ++ downs d t
downs-app d s t = ap msgs (keep-app (in_air d) s t) ∙ msgs-app (keep (in_air d) s) (keep (in_air d) t)

-- a word that is not of d changes nothing at d
module _ (d x : ℕ) (n : link_in x ≢ d) where
  ups-skip : ups d (x ∷ []) ≡ []
  ups-skip = ap msgs (keep-none (is_up d) x (not_right (handed_in x) (link_in x) d n))

  downs-skip : downs d (x ∷ []) ≡ []
  downs-skip = ap msgs (keep-none (in_air d) x (not_right (not (handed_in x)) (link_in x) d n))

  pub chan-skip : (s : List ℕ) → chan d (s ++ (x ∷ [])) ≡ chan d s
  unfolding chan
  chan-skip s = ap₂ ◌++◌ (ups-app d s (x ∷ []) ∙ ap (λ l. ups d s ++ l) ups-skip ∙ append-nil (ups d s))
      (downs-app d s (x ∷ []) ∙ ap (λ l. downs d s ++ l) downs-skip ∙ append-nil (downs d s))

-- a word of d at the end, handed over or not
module _ (d x : ℕ) (e : link_in x ≡ d) where
  pub chan-up : handed_in x ≡ true → (s : List ℕ) → chan d (s ++ (x ∷ [])) ≡ ups d s ++ (msg_in x ∷ downs d s)
  unfolding chan
  chan-up h s =
      ap₂ ◌++◌ (ups-app d s (x ∷ []) ∙ ap (λ l. ups d s ++ msgs l) (keep_one (is_up d) x (made (handed_in x) (link_in x) d h e)))
      (downs-app d s (x ∷ []) ∙ ap (λ l. downs d s ++ msgs l) (keep-none (in_air d) x (not_left (not (handed_in x)) (link_in x) d (ap not h))) ∙ append-nil (downs d s))
      ∙ append_assoc (ups d s) (msg_in x ∷ []) (downs d s)

  -- LAW 1: "A send goes to the end", of its channel
  pub chan-down : handed_in x ≡ false → (s : List ℕ) → chan d (s ++ (x ∷ [])) ≡ chan d s ++ (msg_in x ∷ [])
  unfolding chan
  chan-down h s =
      ap₂ ◌++◌ (ups-app d s (x ∷ []) ∙ ap (λ l. ups d s ++ msgs l) (keep-none (is_up d) x (not_left (handed_in x) (link_in x) d h)) ∙ append-nil (ups d s))
      (downs-app d s (x ∷ []) ∙ ap (λ l. downs d s ++ msgs l) (keep_one (in_air d) x (made (not (handed_in x)) (link_in x) d (ap not h) e)))
      ∙ sym (append_assoc (ups d s) (downs d s) (msg_in x ∷ []))

-- LAW 2: a hand-over leaves every channel as it is. x is the first word in the air of e, r the words without it.
module _ (e x : ℕ) (s r : List ℕ) (o : FirstThat (in_air e) s x r) (shape : shaped x ≡ true) where
  -- handed over it is the same message of the same directed link
  raised : Unpacked (header_in x) (carried_in x) (link_in x) 1 (hand_over x)
  raised = over x (eqb-true (x / 2 ^ 41) 1 shape)

  same-msg : msg_in (hand_over x) ≡ msg_in x
  same-msg = ap₂ (λ h c. msg_of (kind_at h) (level_at h) c (find_at h)) raised.header raised.carried

  link-is : link_in x ≡ e
  link-is = (air-parts e x (first_passes o)).1

  low : handed_in x ≡ false
  low = (air-parts e x (first_passes o)).0

  -- before: the head of the downs of e
  own-before : chan e s ≡ ups e r ++ (msg_in x ∷ downs e r)
  unfolding chan
  own-before =
      ap₂ ◌++◌ (ap msgs (others (is_up e) (not_left (handed_in x) (link_in x) e low) o)) (ap msgs (head_of (in_air e) (λ y h. h) (first_passes o) o))

  own : chan e (r ++ (hand_over x ∷ [])) ≡ chan e s
  own = chan-up e (hand_over x) (raised.link ∙ link-is) (eq-eqb _ 1 raised.handed) r ∙ ap (λ m. ups e r ++ (m ∷ downs e r)) same-msg ∙ sym own-before

  other : (d : ℕ) → link_in x ≢ d → chan d (r ++ (hand_over x ∷ [])) ≡ chan d s
  unfolding chan
  other d n = chan-skip d (hand_over x) (λ q. n (sym raised.link ∙ q)) r
      ∙ sym (ap₂ ◌++◌ (ap msgs (others (is_up d) (not_right (handed_in x) (link_in x) d n) o)) (ap msgs (others (in_air d) (not_right (not (handed_in x)) (link_in x) d n) o)))

  pub hand-chan : (d : ℕ) → chan d (r ++ (hand_over x ∷ [])) ≡ chan d s
  hand-chan d = by-eq e d (λ q. subst (λ i. chan i (r ++ (hand_over x ∷ [])) ≡ chan i s) q own) (λ n. other d (λ q. n (sym link-is ∙ q)))

-- A service of v takes x, the first word of v's queue; r are the words without it.
module _ (p : Plan) (v x : ℕ) (s r : List ℕ) (o : FirstThat (in_queue p v) s x r) where
  high : handed_in x ≡ true
  high = (queue-parts p v x (first_passes o)).0

  -- a word of x's link that was handed over is in v's queue
  narrower : (y : ℕ) → in_queue p v y ≡ false → is_up (link_in x) y ≡ false
  narrower y h = bool_cases (is_up (link_in x) y)
      (λ u. let a = up-parts (link_in x) y u in
      absurd (true≢false (sym (made (handed_in y) (dest p (link_in y)) v a.0 (ap (dest p) a.1 ∙ (queue-parts p v x (first_passes o)).1)) ∙ h)))
      (λ u. u)

  ups-head : keep (is_up (link_in x)) s ≡ x ∷ keep (is_up (link_in x)) r
  ups-head = head_of (is_up (link_in x)) narrower (made (handed_in x) (link_in x) (link_in x) high refl) o

  downs-same : (d : ℕ) → keep (in_air d) s ≡ keep (in_air d) r
  downs-same d = others (in_air d) (not_left (not (handed_in x)) (link_in x) d (ap not high)) o

  -- LAW 3: it is the head of its channel; other channels stay
  pub take_own : chan (link_in x) s ≡ msg_in x ∷ chan (link_in x) r
  unfolding chan
  take_own = ap₂ ◌++◌ (ap msgs ups-head) (ap msgs (downs-same (link_in x)))

  pub take-other : (d : ℕ) → link_in x ≢ d → chan d s ≡ chan d r
  unfolding chan
  take-other d n = ap₂ ◌++◌ (ap msgs (others (is_up d) (not_right (handed_in x) (link_in x) d n) o)) (ap msgs (downs-same d))

  -- LAW 4: put back at the end it stands behind the other handed-over words of its channel; other channels stay
  pub back-own : (t : List ℕ) → chan (link_in x) (t ++ (x ∷ [])) ≡ ups (link_in x) t ++ (msg_in x ∷ downs (link_in x) t)
  back-own t = chan-up (link_in x) x refl high t

  pub back-other : (d : ℕ) (t : List ℕ) → link_in x ≢ d → chan d (t ++ (x ∷ [])) ≡ chan d t
  back-other d t n = chan-skip d x n t
