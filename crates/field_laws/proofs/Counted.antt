-- What is counted of steps, for the law (Counts): the sent count and the words that wait (`CountedSteps`), for none (`counted_none`), for some and then more
-- (`counted-more`), and for one (`counted-step`).
use Rattle.std.specs.Prelude.{ℕ, ◌+◌, ◌≡◌}
use native.Mathlib.Omega.{arith}
use Rattle.std.proofs.Math.Path.{refl, ap}
use Rattle.std.proofs.Common.{sym, ◌∙◌}
use mathlib.Core.List.{List, [], ◌∷◌, ◌++◌, append_assoc, map, flat_map}
use Rattle.std.proofs.Math.ListN.{length, length-append, length-map}
use Rattle.base.specs.Pool.{sum_l}
use Rattle.base.proofs.laws.Pool.{sum_l-app}
use Rattle.format_word.specs.Word.{hand_over}
use Rattle.plan.specs.Links.{Plan}
use Rattle.field.specs.State.{State}
use Rattle.field_calls.specs.Trail.{Taken, posted_at, sent_by, sends_at, sent_in, messages_sent, consumed_at}

pub flat-app : {A B : Type 0} (f : A → List B) (l m : List A) → flat_map f (l ++ m) ≡ flat_map f l ++ flat_map f m
unfolding flat_map
flat-app f [] m = refl
flat-app f (x ∷ l) m = ap (λ r. f x ++ r) (flat-app f l m) ∙ sym (append_assoc (f x) (flat_map f l) (flat_map f m))

-- the words of what the steps sent, and those that they consumed
abbrev pub sent_words : Plan → List Taken → List ℕ
sent_words p l = flat_map (posted_at p) l

abbrev pub consumed_words : Plan → List Taken → List ℕ
consumed_words p l = flat_map (consumed_at p) l

-- from x the steps l were taken and left y
pub record CountedSteps (p : Plan) (x : State) (l : List Taken) (y : State) : Type 0 where
  pub sent : y.sent ≡ x.sent + messages_sent p l
  -- by any weight of words that a hand-over keeps: 1 gives their number, a test how many pass it
  pub words : (f : ℕ → ℕ) → ((w : ℕ) → f (hand_over w) ≡ f w) → sum_l f y.words + sum_l f (consumed_words p l) ≡ sum_l f x.words + sum_l f (sent_words p l)

module _ (p : Plan) where
  pub counted_none : (x : State) → CountedSteps p x [] x
  unfolding flat_map
  counted_none x = record { sent = omega arith; words = λ f k. omega arith }

  pub counted-more : (x y z : State) (l m : List Taken) → CountedSteps p x l y → CountedSteps p y m z → CountedSteps p x (l ++ m) z
  counted-more x y z l m a b = record {
    sent =
        omega (
          arith,
          a.sent,
          b.sent,
          ap length (flat-app (λ t. map (sent_by p t.number) (sends_at p t)) l m) ∙ length-append (sent_in p l) (sent_in p m),
        );
    words = λ f k.
        omega (
          arith,
          a.words f k,
          b.words f k,
          ap (sum_l f) (flat-app (posted_at p) l m) ∙ sum_l-app f (sent_words p l) (sent_words p m),
          ap (sum_l f) (flat-app (consumed_at p) l m) ∙ sum_l-app f (consumed_words p l) (consumed_words p m),
        );
  }

  -- one step: it adds the words of its sends, and takes the word that it consumes
  pub counted-step : (x y : State) (t : Taken) → y.sent ≡ x.sent + length (sends_at p t)
      → ((f : ℕ → ℕ) → ((w : ℕ) → f (hand_over w) ≡ f w) → sum_l f y.words + sum_l f (consumed_at p t) ≡ sum_l f x.words + sum_l f (posted_at p t))
      → CountedSteps p x (t ∷ []) y
  unfolding flat_map
  counted-step x y t n h = record {
    sent = omega (arith, n, length-append (map (sent_by p t.number) (sends_at p t)) [], length-map (sends_at p t) (sent_by p t.number));
    words = λ f k. omega (arith, h f k, sum_l-app f (consumed_at p t) [], sum_l-app f (posted_at p t) []);
  }
