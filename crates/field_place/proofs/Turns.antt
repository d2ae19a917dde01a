-- The loop over the links that writes the copies of a message (`copying-start`, `copying_room`, `copying-none`, `copying-one`).
use Rattle.std.specs.Prelude.{ℕ, ◌+◌, ◌≤◌, ◌<◌, ◌≡◌, true, false, List, [], ◌∷◌, ◌++◌, length, set}
use Rattle.std.proofs.Common.{arith, sym, ap, ap₂, subst, ◌∙◌, length-append}
use mathlib.Core.List.{map-append}
use Rattle.format_message.proofs.laws.Means.{Means}
use Rattle.format_word.specs.Word.{packed, header_in, carried_in}
use Rattle.plan.specs.Links.{Plan, links_of}
use Rattle.node.specs.Work.{on_each}
use Rattle.field.specs.Edges.{own_of, end_of}
use Rattle.field.specs.State.{msg_in, word_of, posted}
use Rattle.field_laws.proofs.Sends.{length-posted}
use Rattle.field_place.specs.Posted.{copy_test, copied_at, copies_to, Posted}
use Rattle.field_place.proofs.Words.{posted-none, posted-one, posted-length, posted-then}
use Rattle.field_place.proofs.Copies.{each_on, each-off, each-short}

-- module v's copies of word x, which says msg_in x
module _ (p : Plan) (marks : List ℕ) (v x : ℕ) (lent₀ : List ℕ) (n : ℕ) where
  pub copying-start : Posted lent₀ lent₀ n n (posted p v (copies_to p marks v x 0))
  unfolding on_each
  copying-start = posted-none lent₀ n

  module _ (lent : List ℕ) (m k : ℕ) (c : Posted lent₀ lent n m (posted p v (copies_to p marks v x k))) where
    pub copying-none : copied_at p marks v x k ≡ false → Posted lent₀ lent n m (posted p v (copies_to p marks v x (k + 1)))
    copying-none h = rw (each-off (own_of p v) (copy_test p marks v x) (msg_in x) k h) c

    module _ (h : copied_at p marks v x k ≡ true) where
      more : copies_to p marks v x (k + 1) ≡ copies_to p marks v x k ++ (record { edge = k; msg = msg_in x } ∷ [])
      more = each_on (own_of p v) (copy_test p marks v x) (msg_in x) k h

      pub copying_room : n + length (copies_to p marks v x (links_of p)) ≤ length lent₀ → k < links_of p → m < length lent
      copying_room room l =
          let one : length (copies_to p marks v x (k + 1)) ≡ length (copies_to p marks v x k) + 1 = ap length more ∙ length-append (copies_to p marks v x k) (record { edge = k; msg = msg_in x } ∷ []) in
          omega (arith, one, c.many, length-posted p v (copies_to p marks v x k), posted-length c, each-short (own_of p v) (copy_test p marks v x) (msg_in x) (k + 1) (links_of p) (omega arith))

      pub copying-one : Means (header_in x) (carried_in x) (msg_in x) → (w : ℕ) → w ≡ packed (header_in x) (carried_in x) (end_of p v k) 0
          → Posted lent₀ (set lent m w) n (m + 1) (posted p v (copies_to p marks v x (k + 1)))
      copying-one says w e =
          let word : w ≡ word_of p v (record { edge = k; msg = msg_in x }) = e ∙ ap₂ (λ (a b : ℕ). packed a b (end_of p v k) 0) (sym says.header) (sym says.carried) in
          let words : posted p v (copies_to p marks v x k) ++ (w ∷ []) ≡ posted p v (copies_to p marks v x (k + 1)) =
          ap (λ (y : ℕ). posted p v (copies_to p marks v x k) ++ (y ∷ [])) word
          ∙ sym (map-append (word_of p v) (copies_to p marks v x k) (record { edge = k; msg = msg_in x } ∷ []))
          ∙ ap (posted p v) (sym more) in
          subst (Posted lent₀ (set lent m w) n (m + 1)) words (posted-then c (posted-one lent m w))
