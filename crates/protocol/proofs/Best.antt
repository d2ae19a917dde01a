-- Best weights and best edges of nodes in Find change: what stays of the clauses on channels (`flow-best`).
use Rattle.std.specs.Prelude.{ℕ, ◌≡◌}
use Rattle.std.proofs.Common.{arith, ap, ◌∙◌, inl, inr, ⊎_elim}
use Rattle.protocol.specs.Network.{Network, key}
use Rattle.protocol.specs.State.{ProtocolState, set-bw, set-be}
use Rattle.protocol.specs.Notion.{CoreEnds}
use Rattle.protocol.specs.Traffic.{Tokens, Reports}
use Rattle.protocol.proofs.Flow.{Flow}

module _ (p : Network) (s : ProtocolState) (bw be : ℕ → ℕ) where
  abbrev pub rated : ProtocolState
  rated = set-be (set-bw s bw) be

  -- a Found node keeps its best weight
  module _ (same : (w : ℕ) → s.st w ≡ 2 → bw w ≡ s.bw w) where
    tokens-best : Tokens p s → Tokens p rated
    tokens-best o = record {
      d1c = o.d1c;
      d1a = o.d1a;
      d2c = o.d2c;
      k1 = o.k1;
      d3r = o.d3r;
      d4h = o.d4h;
      d4r = o.d4r;
      d7 = λ k x y e g d h f. ⊎_elim (λ t. inl t) (λ t. inr (t.0, t.1, omega (arith, ap (key p) (same x f), ap (key p) (same y t.1), t.2), t.3)) (o.d7 k x y e g d h f);
    }

    core-best : (u v k w : ℕ) → CoreEnds s u v k w → CoreEnds rated u v k w
    core-best u v k w t = (t.0, t.1, t.2, t.3, same u t.3 ∙ t.4, t.5, t.6)

    pub reports-best : Reports p s → Reports p rated
    reports-best o = record {
      r1r = o.r1r;
      r1j = o.r1j;
      r1 = λ k u v w e n. ⊎_elim (λ t. inl (t.0, t.1, t.2, t.3, same u t.3 ∙ t.4, t.5, t.6, t.7))
          (⊎_elim (λ t. inr (inl (core-best u v k w t)))
          (λ t. inr (inr (t.0, t.1, t.2, t.3, t.4, ⊎_elim (λ l. inl (omega (arith, ap (key p) (same v t.3)))) (λ l. inr (l.0, same v t.3 ∙ l.1, l.2, l.3)) t.5))))
          (o.r1 k u v w e n);
      r1c = λ k u v w e n h d g. core-best u v k w (o.r1c k u v w e n h d g);
    }

    pub flow-best : Flow p s → Flow p rated
    flow-best o = record {
      hush = record { g6o = o.hush.g6o; g6i = o.hush.g6i };
      tokens = tokens-best o.tokens;
      connects = record { c1m = o.connects.c1m; c1 = o.connects.c1 };
      initiates = record { i1 = o.initiates.i1 };
      telling = record { u2 = o.telling.u2; t2i = o.telling.t2i; t4 = o.telling.t4; t4n = o.telling.t4n };
      reports = reports-best o.reports;
      owing = record { f4y = o.owing.f4y; f4n = o.owing.f4n };
      ordered = record { q1 = o.ordered.q1 };
    }
