-- A step that changes test edges, best edges, find-counts or what is open keeps the clauses on channels that do not read them (`flow-open`).
use Rattle.std.specs.Prelude.{ℕ}
use Rattle.protocol.specs.Network.{Network}
use Rattle.protocol.specs.State.{ProtocolState, set-te, set-be, set-fc, set-ot, set-op, set-oo}
use Rattle.protocol.proofs.Flow.{Flow}

module _ (p : Network) (s : ProtocolState) (te be fc : ℕ → ℕ) (ot op oo : ℕ) where
  abbrev pub reopened : ProtocolState
  reopened = set-oo (set-op (set-ot (set-fc (set-be (set-te s te) be) fc) ot) op) oo

  pub flow-open : Flow p s → Flow p reopened
  flow-open o = record {
    hush = record { g6o = o.hush.g6o; g6i = o.hush.g6i };
    tokens = record { d1c = o.tokens.d1c; d1a = o.tokens.d1a; d2c = o.tokens.d2c; k1 = o.tokens.k1; d3r = o.tokens.d3r; d4h = o.tokens.d4h; d4r = o.tokens.d4r; d7 = o.tokens.d7 };
    connects = record { c1m = o.connects.c1m; c1 = o.connects.c1 };
    initiates = record { i1 = o.initiates.i1 };
    telling = record { u2 = o.telling.u2; t2i = o.telling.t2i; t4 = o.telling.t4; t4n = o.telling.t4n };
    reports = record { r1r = o.reports.r1r; r1j = o.reports.r1j; r1 = o.reports.r1; r1c = o.reports.r1c };
    owing = record { f4y = o.owing.f4y; f4n = o.owing.f4n };
    ordered = record { q1 = o.ordered.q1 };
  }
