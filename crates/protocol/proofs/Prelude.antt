-- What the files of the proof use, passed on from one place.
pub use Rattle.std.specs.Prelude.{ℕ, zero, suc, ◌+◌, ◌-◌, ◌*◌, ◌^◌, ◌≤◌, ◌<◌, ◌≡◌, refl, ◌≢◌, ◌⊎◌, Bool, true, false, not, cond, ◌&&◌, List, [], ◌∷◌, ◌++◌, eqb}
pub use Rattle.std.proofs.Common.{arith, sym, ap, subst, ◌∙◌, inl, inr, ⊎_elim}
pub use Rattle.std.proofs.Math.Path.{fun_ext}
pub use Rattle.base.specs.Cond.{bit}
pub use Rattle.base.proofs.laws.Cond.{by-eq, bool_cases, eqb_same, eqb-diff, upd-elim, upd_same, upd_other, upd2-elim}
unfoldable pub use Rattle.base.specs.Cond.{upd, upd2}
unfoldable pub use Rattle.base.proofs.laws.Cond.{eqb-cases}
pub use Rattle.base.specs.Pool.{All, sum_l, nil, con}
pub use Rattle.base.proofs.laws.Pool.{All-app, sum_l-app}
pub use Rattle.base.specs.Sum.{sum}
pub use Rattle.base.proofs.laws.Sum.{sum-le, sum-eq, sum-add, le-sum}
pub use Rattle.base.proofs.laws.Search.{strong}
pub use Rattle.graph.specs.Graph.{Graph, Joins, up, down, Way, stop, go}
pub use Rattle.graph.proofs.laws.Ways.{joins-lt, flip, ends-two, ends_same, way-append, edge-way, wider}
pub use Rattle.graph.proofs.laws.Cut.{cut-rank}
pub use Rattle.graph.proofs.laws.Size.{size_mono}
pub use Rattle.format_message.specs.Msg.{Msg, none, connect, initiate, test, accept, reject, report, change}
pub use Rattle.protocol.specs.Network.{Network, Edge, Tree, rank, key-none, key-edge, rank_lt, rank-inj, edge-some, ends-irr, ends-key, ends-rank, end_lt}
unfoldable pub use Rattle.protocol.specs.Network.{key}
pub use Rattle.protocol.specs.State.{ProtocolState, setup_state, set-st, set-bw, set-be, set-te, set-fc, set-halt, set-mark, set-ch}
pub use Rattle.protocol.specs.State.{set-dk, set-dn, set-ub, set-owe, set-ot, set-op, set-oo}
pub use Rattle.protocol.specs.Step.{SmallStep, Idle, Blocked, FirstOwn, FirstBasic, Flag, Better, Strike, Mode, Place}
pub use Rattle.protocol.specs.Step.{send_over, pop, remarked, woken_up, decided, halved, merged, absorbed, initiated, bested, rooted, report_sent}
unfoldable pub use Rattle.protocol.specs.Step.{bulk, copy, fan, fill_edges}
pub use Rattle.protocol.specs.Kind.{is_c, is_i, is_ci, is_t, is_a, is_y, is_r, is_k, arg1, arg2, arg3, Only, Rouse, Fits, top, kinds}
pub use Rattle.protocol.specs.Kind.{fits-connect, fits-test, fits-accept, fits-reject, fits-report, fits-change, fits-initiate}
pub use Rattle.protocol.specs.Chan.{In, first, next, Bef, heads, tails, in-nil, in-cons, bef-before, bef-behind}
pub use Rattle.protocol.specs.Chan.{in_sum, all_in, in_all, at2, else_same, here-new, head_at}
pub use Rattle.protocol.specs.Chan.{pop-head, pop-in, in-pop, pop-bef, pop-sum, pop-here, pop-le, pop-all}
pub use Rattle.protocol.specs.Chan.{snoc, snoc-elim, snoc-in, snoc_old, in-snoc2, in-new, snoc-bef, snoc-sum, snoc-here, snoc-else, snoc-all}
pub use Rattle.protocol.specs.Chan.{rot, rot-in, in-rot, rot-bef, rot-sum, rot-all}
pub use Rattle.protocol.proofs.Lemmas.{bulk-elim, bulk-in, bulk-out, relabel-keep, relabel-cases, copy-yes, copy-on}
pub use Rattle.protocol.proofs.Lemmas.{fan-elim, fan-in, in-fan, fan-new, fan-bef, fan-sum, fan-else, fill-elim, fill-else, sum-fill, sum-upd, sum_row, row-else}
pub use Rattle.protocol.proofs.Lemmas.{top-app, pop-top, snoc-top, rot-top, top-none, top_in, top-max, other-end, same-edge, joined-both, both-joined}
pub use Rattle.protocol.proofs.Lemmas.{some-connect, some-test, some-report, some-change}
pub use Rattle.protocol.proofs.Lemmas.{no-tests, no-reports, no-answers, no-calls, none_in}
pub use Rattle.protocol.specs.Notion.{Both, JoinedEdge, Bounding, Decision, Rooting, Awaits, members, GL, GC, DK, Inf, Jn, Bounds}
pub use Rattle.protocol.specs.Notion.{Half, Changing, Root, Waits, Outst, Counting, Covered, Child, CoreEnds, Spent}
pub use Rattle.protocol.specs.Inv.{Inv}
pub use Rattle.protocol.proofs.Facts.{sleep-lev, sleep-id, sleep-te, sleep-fc, sleep-halt, sleep-ib, sleep-ub, mark-awake}
pub use Rattle.protocol.proofs.Facts.{inf-cases, inf-awake, inf-found, te-find, fc-find, waits-find, low-find, decided-find, no-waits, no_answer}
pub use Rattle.protocol.proofs.Facts.{joined-level, half_of, changing-of, root-of, no-root, half_at, up-other, down-core, core-informed}
pub use Rattle.protocol.proofs.Facts.{no-initiate, no-connect, no-connect-decided, decided-initiate, decided-report, decided-test, rest-none}
pub use Rattle.protocol.proofs.Same.{outst-ch, counting-ch, last-case, counting-to, covered-to, owing-same, bests-same, connects-same, initiates-same, init-ok, answers-same, testing-same}
pub use Rattle.protocol.proofs.Same.{around-same, Alike, core-same, reports-same}
pub use Rattle.protocol.proofs.Flow.{Flow, flow, inv-search, inv-asking, inv-passing}
pub use Rattle.protocol.proofs.Reopen.{flow-open}
pub use Rattle.protocol.proofs.Take.{take-alike, take-hush, take-connects, take-initiates, take-telling, take-ordered, Plain, plain-test, plain-accept, plain-reject, flow-take}
pub use Rattle.protocol.proofs.Post.{post-before, post-telling, flow-post}
pub use Rattle.protocol.proofs.Quiet.{parent-find, no-find, no_due}
pub use Rattle.protocol.proofs.Wake.{upd-id, woken-same}
pub use Rattle.protocol.proofs.Best.{rated, reports-best, flow-best}
pub use Rattle.protocol.specs.Run.{sends, Steps, done, then}
