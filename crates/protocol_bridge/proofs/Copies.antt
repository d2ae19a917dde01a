-- The copies of an Initiate, one after the other, are the small step's `fan` (`copies-fan`); and their number (`copies-number`, `copies_length`).
use Prim.Native.Nat.{ℕ, zero, suc, ◌≤◌, ◌<◌}
use Rattle.std.proofs.Common.{arith, sym, subst, ◌∙◌, append-nil}
use Rattle.std.specs.Prelude.{◌≡◌, refl, ◌≢◌, ◌⊎◌, Bool, true, false, ◌&&◌, List, [], ◌∷◌, ◌++◌, length}
use Rattle.std.proofs.Math.Path.{ap, fun_ext}
use Rattle.std.proofs.Math.Logic.{inl, inr, ⊎_elim}
use Rattle.std.proofs.Math.Bool.{true≢false}
use Rattle.base.specs.Cond.{bit, upd2}
use Rattle.base.proofs.laws.Cond.{bool_cases, by-eq, upd2-elim}
use Rattle.base.specs.Sum.{sum}
use Rattle.base.proofs.laws.Sum.{sum-eq}
use Rattle.graph.proofs.laws.Ways.{joins-lt}
use Rattle.format_message.specs.Msg.{Msg}
use Rattle.node.specs.Work.{Own, Send, number, on_each}
use Rattle.node.proofs.laws.Count.{number-sum, each_number}
use Rattle.protocol.specs.Network.{Network}
use Rattle.protocol.specs.Step.{fan}
use Rattle.protocol.proofs.Lemmas.{fan-elim}
use Rattle.protocol_bridge.proofs.Real.{own_p, post}
use Rattle.protocol_bridge.proofs.Place.{post-app, post-nil, post-one}
use Rattle.protocol_bridge.proofs.Own.{own-ends}

module _ (o : Own) (f : ℕ → Bool) (m : Msg) (n : ℕ) where
  each-yes : o.own n ≡ true → f n ≡ true → on_each o f m (suc n) ≡ on_each o f m n ++ (record { edge = n; msg = m } ∷ [])
  unfolding on_each
  each-yes a b = simp (a, b)

  each-no : f n ≡ false → on_each o f m (suc n) ≡ on_each o f m n
  unfolding on_each
  each-no b = bool_cases (o.own n) (λ a. simp (a, b, append-nil)) (λ a. simp (a, append-nil))

-- f holds of own edges only
module _ (p : Network) (v : ℕ) (f : ℕ → Bool) (mine : (j : ℕ) → f j ≡ true → (own_p p v).own j ≡ true) (m : Msg) where
  -- the copies over edges below n
  abbrev sent : ℕ → List Send
  sent n = on_each (own_p p v) f m n

  module _ (c : ℕ → ℕ → List Msg) where
    turn-yes : (n : ℕ) → f n ≡ true → post c v (sent (suc n)) ≡ upd2 (post c v (sent n)) v n (post c v (sent n) v n ++ (m ∷ []))
    turn-yes n h = ap (post c v) (each-yes (own_p p v) f m n (mine n h) h) ∙ (post-app c v (sent n) (record { edge = n; msg = m } ∷ []) ∙ post-one (post c v (sent n)) v n m)

    turn-no : (n : ℕ) → f n ≡ false → post c v (sent (suc n)) ≡ post c v (sent n)
    turn-no n h = ap (post c v) (each-no (own_p p v) f m n h)

    -- a channel that gets none
    still : (n a j : ℕ) → (v ≢ a) ⊎ ((n ≤ j) ⊎ (f j ≡ false)) → post c v (sent n) a j ≡ c a j
    unfolding on_each
    still zero a j h = ap (λ d. d a j) (post-nil c v)
    still (suc n) a j h = bool_cases (f n)
        (λ y. ap (λ d. d a j) (turn-yes n y) ∙ upd2-elim (λ l. l ≡ c a j) (post c v (sent n)) v n (post c v (sent n) v n ++ (m ∷ [])) a j
        (λ e q. absurd (⊎_elim (λ d. d e) (λ t. ⊎_elim (λ l. omega arith) (λ z. true≢false (sym y ∙ (ap f q ∙ z))) t) h))
        (λ d. still n a j (less h)))
        (λ y. ap (λ d. d a j) (turn-no n y) ∙ still n a j (less h))
      where
        less : (v ≢ a) ⊎ ((suc n ≤ j) ⊎ (f j ≡ false)) → (v ≢ a) ⊎ ((n ≤ j) ⊎ (f j ≡ false))
        less (inl d) = inl d
        less (inr (inl l)) = inr (inl (omega arith))
        less (inr (inr z)) = inr (inr z)

    -- one that gets its copy
    gets : (n j : ℕ) → j < n → f j ≡ true → post c v (sent n) v j ≡ c v j ++ (m ∷ [])
    gets zero j l h = absurd (omega arith)
    gets (suc n) j l h = bool_cases (f n)
        (λ y. ap (λ d. d v j) (turn-yes n y) ∙ upd2-elim (λ x. x ≡ c v j ++ (m ∷ [])) (post c v (sent n)) v n (post c v (sent n) v n ++ (m ∷ [])) v j
        (λ e q. ap (λ x. x ++ (m ∷ [])) (still n v n (inr (inl (omega arith))) ∙ ap (c v) q))
        (λ d. gets n j (⊎_elim (λ t. absurd (t refl)) (λ t. omega arith) d) h))
        (λ y. ap (λ d. d v j) (turn-no n y) ∙ gets n j (by-eq n j (λ q. absurd (true≢false (sym h ∙ (sym (ap f q) ∙ y)))) (λ t. omega arith)) h)

    pub copies-fan : fan c v f m ≡ post c v (on_each (own_p p v) f m p.g.L)
    copies-fan = fun_ext (λ a. fun_ext (λ j. fan-elim (λ l. l ≡ post c v (sent p.g.L) a j) c v f m a j
        (λ e h. subst (λ b. c b j ++ (m ∷ []) ≡ post c v (sent p.g.L) b j) e (sym (gets p.g.L j (joins-lt (own-ends p v j (mine j h)).1) h)))
        (λ n. sym (still p.g.L a j (⊎_elim (λ d. inl d) (λ z. inr (inr z)) n)))))

  -- the number of copies, as the rules and as the small step count them
  pub copies-number : number (own_p p v) f p.g.L ≡ sum p.g.L (λ j. bit (f j))
  copies-number = number-sum (own_p p v) f p.g.L ∙ sum-eq p.g.L (λ k. bit ((own_p p v).own k && f k)) (λ k. bit (f k))
      (λ k l. bool_cases (f k) (λ h. rw (mine k h)) (λ h. bool_cases ((own_p p v).own k) (λ y. rw (y, h)) (λ y. rw (y, h))))

  pub copies_length : length (on_each (own_p p v) f m p.g.L) ≡ sum p.g.L (λ j. bit (f j))
  copies_length = each_number (own_p p v) f m p.g.L ∙ copies-number
