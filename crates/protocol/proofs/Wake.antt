-- A sleeper is as at setup: waking changes its status alone (`woken-same`).
use Rattle.std.specs.Prelude.{ℕ, ◌≡◌, refl}
use Rattle.std.proofs.Common.{sym, ap, ◌∙◌}
use Rattle.std.proofs.Math.Path.{fun_ext}
use Rattle.base.specs.Cond.{upd}
use Rattle.base.proofs.laws.Cond.{upd-elim}
use Rattle.format_message.specs.Msg.{none}
use Rattle.protocol.specs.Network.{Network}
use Rattle.protocol.specs.State.{ProtocolState, set-st, set-lev, set-id, set-bw, set-be, set-te, set-ib, set-fc}
use Rattle.protocol.specs.Step.{woken_up}
use Rattle.protocol.specs.Inv.{Inv}
use Rattle.protocol.proofs.Facts.{sleep-lev, sleep-id, sleep-te, sleep-fc, sleep-ib}

-- a table that has the value already
pub upd-id : (f : ℕ → ℕ) (v a : ℕ) → f v ≡ a → upd f v a ≡ f
upd-id f v a e = fun_ext (λ w. upd-elim (λ x. x ≡ f w) f v a w (λ q. sym e ∙ ap f q) (λ n. refl))

-- v is Found, and the other tables are these
abbrev found : ProtocolState → ℕ → (ℕ → ℕ) → (ℕ → ℕ) → (ℕ → ℕ) → (ℕ → ℕ) → (ℕ → ℕ) → (ℕ → ℕ) → (ℕ → ℕ) → ProtocolState
found s v lev id be te bw ib fc = set-fc (set-ib (set-bw (set-te (set-be (set-id (set-lev (set-st s (upd s.st v 2)) lev) id) be) te) bw) ib) fc

pub woken-same : {p : Network} {s : ProtocolState} → Inv p s → (v : ℕ) → s.st v ≡ 0 → woken_up s v ≡ set-st s (upd s.st v 2)
woken-same {s} i v z =
    ap (λ f. found s v f (upd s.id v none) (upd s.be v none) (upd s.te v none) (upd s.bw v none) (upd s.ib v none) (upd s.fc v 0)) (upd-id s.lev v 0 (sleep-lev i v z))
    ∙ ap (λ f. found s v s.lev f (upd s.be v none) (upd s.te v none) (upd s.bw v none) (upd s.ib v none) (upd s.fc v 0)) (upd-id s.id v none (sleep-id i v z))
    ∙ ap (λ f. found s v s.lev s.id f (upd s.te v none) (upd s.bw v none) (upd s.ib v none) (upd s.fc v 0)) (upd-id s.be v none (i.sleepers.g6 v z).g6e)
    ∙ ap (λ f. found s v s.lev s.id s.be f (upd s.bw v none) (upd s.ib v none) (upd s.fc v 0)) (upd-id s.te v none (sleep-te i v z))
    ∙ ap (λ f. found s v s.lev s.id s.be s.te f (upd s.ib v none) (upd s.fc v 0)) (upd-id s.bw v none (i.sleepers.g6 v z).g6w)
    ∙ ap (λ f. found s v s.lev s.id s.be s.te s.bw f (upd s.fc v 0)) (upd-id s.ib v none (sleep-ib i v z))
    ∙ ap (λ f. found s v s.lev s.id s.be s.te s.bw s.ib f) (upd-id s.fc v 0 (sleep-fc i v z))
