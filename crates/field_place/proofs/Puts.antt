-- Lots of messages written one after the other (`lots`), and what that comes to behind the waiting words (`put_of`).
use Prim.Native.Nat.{ℕ, ◌+◌, ◌-◌, ◌≤◌}
use native.Mathlib.Omega.{arith}
use mathlib.Core.Path.{◌≡◌, sym, ap, subst, ◌∙◌}
use mathlib.Core.List.{List, ◌++◌, map-append}
use lib.ListN.{length, take, replicate, length-append}
use lib.Seq.{length-take-le, sets-eq}
use Rattle.plan.specs.Links.{Plan, links_of}
use Rattle.node.specs.Work.{Send}
use Rattle.node_response.specs.declared.Response.{Response}
use Rattle.node_response.specs.Response.{packet_sends, copies_of}
use Rattle.field.specs.State.{word_of, posted}
use Rattle.field.specs.Held.{layout}
use Rattle.field_laws.proofs.Sends.{length-posted}
use Rattle.field_words.specs.Laid.{Laid}
use Rattle.field_words.proofs.Laid.{zeros-from, laid}
use Rattle.field_place.specs.Posted.{Posted, Put, copies_to, sends_by}
use Rattle.field_place.proofs.Words.{posted-length, posted-then}

module _ (p : Plan) (v : ℕ) where
  pub put-many : {l : List Send} {lent after : List ℕ} {n r : ℕ} → Put p v l lent n after r → r ≡ n + length l
  put-many {l} {n = n} d = d.words.many ∙ ap (λ k. n + k) (length-posted p v l)

  posted-both : (s t : List Send) {lent mid after : List ℕ} {n m r : ℕ}
      → Posted lent mid n m (posted p v s) → Posted mid after m r (posted p v t) → Posted lent after n r (posted p v (s ++ t))
  posted-both s t {lent} {after = after} {n} {r = r} d e = subst (Posted lent after n r) (sym (map-append (word_of p v) s t)) (posted-then d e)

  -- written behind the n words that wait, over zeros
  pub put_of : (l : List Send) (lent after : List ℕ) (n r : ℕ) → Laid lent n → n + length l ≤ length lent → Posted lent after n r (posted p v l)
      → Put p v l lent n after r
  put_of l lent after n r h room d =
      let ws = posted p v l in
      let k = length-posted p v l in
      let many : length (take n lent ++ ws) ≡ n + length ws = length-append (take n lent) ws ∙ ap (λ j. j + length ws) (length-take-le n lent h.within) in
      let rest : length lent - (n + length ws) ≡ length lent - length (take n lent ++ ws) = ap (λ j. length lent - j) (sym many) in
      let e : after ≡ layout (length lent) (take n lent ++ ws) =
      d.is ∙ sets-eq ws lent n (omega arith)
      ∙ ap (λ (z : List ℕ). take n lent ++ ws ++ z) (zeros-from lent n h (n + length ws) (omega arith) ∙ ap (λ (j : ℕ). replicate j 0) rest) in
      record {
        same = posted-length d;
        laid = laid after (length lent) (take n lent ++ ws) r e (omega (arith, d.many)) (omega (arith, d.many));
        words = record { is = e; many = d.many };
      }

-- The three lots of a response: its copies, then its first message and its second.
module _ (p : Plan) (marks : List ℕ) (v x : ℕ) (a : Response) {lent mid next after : List ℕ} {n m k r : ℕ} where
  pub lots : Posted lent mid n m (posted p v (copies_of a.copies (copies_to p marks v x (links_of p)))) → Posted mid next m k (posted p v (packet_sends a.first))
      → Posted next after k r (posted p v (packet_sends a.second)) → Posted lent after n r (posted p v (sends_by p marks v x a))
  lots d q z =
      posted-both p v (copies_of a.copies (copies_to p marks v x (links_of p))) (packet_sends a.first ++ packet_sends a.second) d
      (posted-both p v (packet_sends a.first) (packet_sends a.second) q z)
