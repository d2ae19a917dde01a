-- Turns, rounds and rest as the code takes them: `hand-turn`, `hand-phase`, `serve-turn`, `serve-phase`, `round-on`, `round-off`, `rest`.
use Prim.Native.Nat.{ℕ, ◌*◌}
use mathlib.Core.Path.{◌≡◌, sym, ap, ◌∙◌}
use mathlib.Core.Logic.{◌≢◌}
use mathlib.Core.Bool.{true, false}
use mathlib.Core.List.{List}
use lib.ListN.{length, take}
use lib.Seq.{length-take-le}
use lib.Dec.{eqb}
use borrow.Author.Tests.{eq-eqb, ne_eqb}
use Rattle.base.specs.Loop.{After, then, loop}
use Rattle.base.proofs.laws.Loop.{then-on, then-off, loop-keeps}
use Rattle.plan.specs.Links.{Plan, modules_of, links_of}
use Rattle.plan.proofs.laws.Accepted.{Accepted}
use Rattle.field.specs.State.{State}
use Rattle.field.specs.Step.{in_air, in_queue, hand, serve}
use Rattle.base.specs.Keep.{many}
use Rattle.field_calls.specs.Rounds.{hand_turn, hand_phase, serve_turn, serve_phase, round}
use Rattle.field_laws.proofs.Keeps.{Sound, step_keeps}
use Rattle.field_laws.proofs.Trace.{hand-turn-tells}
use Rattle.field_words.specs.Laid.{Laid}

-- a turn is its loop, over the count that the code has read; so is the phase, over the number of links that the code has
module _ (p : Plan) (s : State) (q : ℕ) where
  pub hand-phase : q ≡ 2 * links_of p → loop q (hand_turn p) s ≡ hand_phase p s
  hand-phase e = ap (λ (n : ℕ). loop n (hand_turn p) s) e

  pub hand-turn : (d : ℕ) → q ≡ many (in_air d) s.words → loop q (λ j. hand p d) s ≡ hand_turn p d s
  unfolding hand_turn
  hand-turn d e = ap (λ (n : ℕ). loop n (λ j. hand p d) s) e

  pub serve-turn : (v : ℕ) → q ≡ many (in_queue p v) s.words → loop q (λ j. serve p v) s ≡ serve_turn p v s
  unfolding serve_turn
  serve-turn v e = ap (λ (n : ℕ). loop n (λ j. serve p v) s) e

-- a round whose hand-overs left z
module _ (p : Plan) (s : State) (z : After State) (e : z ≡ hand_phase p s) where
  pub round-on : z.refusal ≡ 0 → serve_phase p z.state ≡ round p s
  unfolding round
  round-on h = sym (then-on z (serve_phase p) h) ∙ ap (λ (a : After State). then a (serve_phase p)) e

  pub round-off : z.refusal ≢ 0 → hand_phase p s ≡ round p s
  unfolding round
  round-off h = sym e ∙ sym (then-off z (serve_phase p) h) ∙ ap (λ (a : After State). then a (serve_phase p)) e

-- the serving phase is its loop, over the number of modules that the code has
pub serve-phase : (p : Plan) (s : State) (q : ℕ) → q ≡ modules_of p → loop q (serve_turn p) s ≡ serve_phase p s
serve-phase p s q e = ap (λ (n : ℕ). loop n (serve_turn p) s) e

-- hand-overs leave a sound state
pub hand-phase-sound : (p : Plan) (s : State) → Accepted p → Sound p s → Sound p (hand_phase p s).state
hand-phase-sound p s a h = loop-keeps (Sound p) (2 * links_of p) (hand_turn p) s h
    (λ d y l. hand-turn-tells p (λ x l y. Sound p x → Sound p y) (λ x h. h) (λ x y z l m f g h. g (f h)) (λ kind number s h. step_keeps p a s h kind number) d y)

-- "At rest means no word waits."
module _ (lent : List ℕ) (n : ℕ) (l : Laid lent n) where
  pub rest : n ≡ 0 → eqb (length (take n lent)) 0 ≡ true
  rest e = eq-eqb _ _ (length-take-le n lent l.within ∙ e)

  pub no-rest : n ≢ 0 → eqb (length (take n lent)) 0 ≡ false
  no-rest d = ne_eqb _ _ (λ e. d (sym (length-take-le n lent l.within) ∙ e))
