-- What a verdict decides: a refused step (`refuses`), a response judged (`judged-32`, `judged-33`, `judged-stands`); the same under other names
-- (`decided-as`, `decided-own`).
use Prim.Native.Nat.{ℕ, ◌+◌, ◌≤◌, ◌<◌}
use native.Mathlib.Omega.{arith}
use mathlib.Core.Path.{◌≡◌, refl, sym, ap, subst, ◌∙◌}
use mathlib.Core.Logic.{◌≢◌}
use mathlib.Core.Bool.{Bool, true, cond}
use mathlib.Core.List.{List}
use lib.ListN.{length}
use borrow.Author.Tests.{eq-eqb, ne_eqb, lt-ltb, le-ltb}
use Rattle.base.specs.Loop.{After, taken_to, refused_by}
use Rattle.base.proofs.laws.Cond.{eqb-cases}
use Rattle.plan.specs.Links.{Plan}
use Rattle.node.specs.Work.{Work, REFUSED}
use Rattle.node_response.specs.declared.NodeAnswer.TheVariants.{Refused}
use Rattle.node_response.specs.declared.Response.{Response}
use Rattle.node_response.specs.Response.{answer_of}
use Rattle.field.specs.Edges.{ceiling_of}
use Rattle.field.specs.State.{State, placed}
use Rattle.field.specs.Step.{without, carry_out, back_of}
use Rattle.field_place.specs.Posted.{sends_by}
use Rattle.field_verdict.specs.Verdict.{Verdict, work_in, Carries, outcome, Decided}
use Rattle.field_verdict.specs.Judged.{Judged}

-- a refusal leaves the same, whatever the response
outcome-same : (p : Plan) (v : ℕ) (s : State) (d : Verdict) (w u : Work) → (d.refusal ≡ 0 → w ≡ u) → outcome w p v s d ≡ outcome u p v s d
outcome-same p v s d w u e = eqb-cases d.refusal 0 (λ (t : Bool). left t w ≡ left t u) (λ z. ap (left true) (e z)) (λ n. refl)
  where
    left : Bool → Work → After State
    left t y = record { refusal = d.refusal; state = cond t (placed p v y s (without d.at s.words) (back_of y d.word)) s }

module _ {p : Plan} {v : ℕ} {s : State} {d : Verdict} where
  -- a step that is refused by this number
  pub refuses : {a : After State} {w : Work} (number : ℕ) → number ≢ 0 → a ≡ refused_by number s → d.refusal ≡ number → Decided a w p v s d
  refuses number n e q = record { is = rw (q, ne_eqb number 0 n) e; can = λ z. absurd (n (sym q ∙ z)) }

  -- the same under equal names
  pub decided-as : {a b : After State} {w u : Work} → a ≡ b → w ≡ u → Decided a w p v s d → Decided b u p v s d
  decided-as e f h = rw (← e, ← f) h

  -- the response is the one that the verdict holds
  pub decided-own : {a : After State} {w : Work} → Decided a w p v s d → Decided a (work_in p v s d) p v s d
  decided-own h = record {
    is = h.is ∙ outcome-same p v s d _ _ (λ z. sym (h.can z).work);
    can = λ z. subst (λ (y : Work). Carries y p v s d) (sym (h.can z).work) (h.can z);
  }

-- a response carried out, by its three outcomes
module _ (p : Plan) (v : ℕ) (w : Work) (s : State) (words back : List ℕ) where
  carry-32 : w.answer ≡ REFUSED → carry_out p v w s words back ≡ refused_by REFUSED s
  unfolding carry_out
  carry-32 h = rw (eq-eqb w.answer REFUSED h)

  module _ (n : w.answer ≢ REFUSED) where
    carry-33 : ceiling_of p < s.sent + length w.sends → carry_out p v w s words back ≡ refused_by 33 s
    unfolding carry_out
    carry-33 h = rw (ne_eqb w.answer REFUSED n, lt-ltb (ceiling_of p) (s.sent + length w.sends) h)

    carry-placed : s.sent + length w.sends ≤ ceiling_of p → carry_out p v w s words back ≡ taken_to (placed p v w s words back)
    unfolding carry_out
    carry-placed h = rw (ne_eqb w.answer REFUSED n, le-ltb (ceiling_of p) (s.sent + length w.sends) h)

-- the code's judgement on a response
module _ (p : Plan) (marks : List ℕ) (sent v i x : ℕ) (a : Response) where
  pub judged-32 : a.answer ≡ Refused → {d : Verdict} → d.refusal ≡ 32 → Judged p marks sent v i x a d
  judged-32 h q = record { decides = λ cells words f. refuses 32 (λ e. omega arith) (carry-32 p v _ _ _ _ (ap answer_of h)) q }

  -- it sends c messages
  module _ (r : answer_of a.answer ≢ REFUSED) (c : ℕ) (e : c ≡ length (sends_by p marks v x a)) where
    pub judged-33 : ceiling_of p < sent + c → {d : Verdict} → d.refusal ≡ 33 → Judged p marks sent v i x a d
    judged-33 h q = record { decides = λ cells words f. refuses 33 (λ e. omega arith) (carry-33 p v _ _ _ _ r (omega arith)) q }

    pub judged-stands : sent + c ≤ ceiling_of p → Judged p marks sent v i x a (record { refusal = 0; at = i; word = x; sends = c; response = a })
    judged-stands h = record {
      decides = λ cells words f. record {
        is = carry-placed p v _ _ _ _ r (omega arith);
        can = λ z. record { work = refl; count = e; room = h; feasible = f };
      };
    }
