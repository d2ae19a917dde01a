-- The laws of the channels over the steps themselves, from any state that passes 31: `hand-leaves`, `wake-appends`, `serve-takes`, `serve-puts-back`,
-- `serve-appends`. `chan d s.words` is the channel of directed link d in state s.
use Rattle.std.specs.Prelude.{ℕ, ◌*◌, ◌<◌, ◌≡◌, refl, ◌≢◌, true}
use Rattle.std.proofs.Common.{sym, subst, ◌∙◌, eq-eqb, ne_eqb}
use Rattle.std.proofs.Math.Path.{ap}
use mathlib.Core.List.{List, [], ◌∷◌, ◌++◌, append-nil}
use Rattle.base.proofs.laws.Cond.{by-eq}
use Rattle.base.specs.Loop.{After}
use Rattle.base.specs.Pool.{All}
use Rattle.base.proofs.laws.Pool.{All-map, All-here}
use Rattle.base.proofs.laws.Keep.{first_out, first_passes}
use Rattle.format_message.specs.Msg.{Msg}
use Rattle.format_word.specs.Word.{link_in}
use Rattle.plan.proofs.laws.Accepted.{Accepted}
use Rattle.plan.specs.Links.{Plan, links_of}
use Rattle.node.specs.Work.{Work, BACK}
use Rattle.field.specs.Edges.{is_own, own_of, from, limit_of}
use Rattle.field.specs.State.{State, msg_in, posted}
use Rattle.field.specs.Step.{wake_work, wake, hand, serve_work, back_of, serve}
use Rattle.field_calls.specs.Trail.{served_word}
use Rattle.field_laws.proofs.Chan.{chan, ups, downs, hand-chan, queue-parts, take_own, take-other, back-own, back-other}
use Rattle.field_laws.proofs.Places.{ends-apart}
use Rattle.field_laws.proofs.Sends.{Packs, onto, post-chan, post-away}
use Rattle.field_laws.proofs.Cases.{HandedOver, Served, StepOutcome, took, kept, wake-outcome, hand-outcome, serve-outcome, took_it}
use Rattle.field_laws.proofs.Lists.{WorkOk}
use Rattle.field_laws.proofs.Fits.{word-link, word-shaped, sends-pack}
use Rattle.field_laws.proofs.Keeps.{Sound, wake-ok, serve-ok}

-- A channel's head m goes to a later place in it: behind `ahead`, whatever else of the channel was handed over.
pub record Later (m : Msg) (before after : List Msg) : Type 0 where
  pub ahead : List Msg
  pub behind : List Msg
  pub was : before ≡ m ∷ (ahead ++ behind)
  pub is : after ≡ ahead ++ (m ∷ behind)

module _ (p : Plan) (a : Accepted p) (s : State) (i : Sound p s) where
  -- A hand-over, taken or refused, leaves every channel as it is.
  pub hand-leaves : (d e : ℕ) → chan e (hand p d s).state.words ≡ chan e s.words
  hand-leaves d e = go (hand-outcome p s d)
    where
      go : {r : After State} → StepOutcome s (HandedOver p d s) r → chan e r.state.words ≡ chan e s.words
      go (took h) = ap (λ (t : State). chan e t.words) h.is ∙ hand-chan d h.word s.words h.rest h.first (word-shaped p h.word (All-here (first_out h.first) i.fits.words)) e
      go (kept r h) = refl

  -- A wake appends each of its messages to its channel, in their order; so other channels stay.
  pub wake-appends : (v : ℕ) → (wake p v s).refusal ≡ 0 → (e : ℕ) → chan e (wake p v s).state.words ≡ chan e s.words ++ onto p v e (wake_work p v s).sends
  wake-appends v t e =
      let h = took_it (wake-outcome p s v) t in
      let w = wake_work p v s in
      ap (λ (r : State). chan e r.words) h.responds.is ∙ ap (chan e) (append-nil (s.words ++ posted p v w.sends))
      ∙ post-chan p v e s.words (sends-pack p a v (wake-ok p a s i v h.within).sends)

  -- v served word x, and left s'
  module _ (v : ℕ) (s' : State) (h : Served p v s s') where
    abbrev x : ℕ
    x = h.word

    abbrev w : Work
    w = serve_work p v x s

    abbrev sent : List ℕ
    sent = h.rest ++ posted p v w.sends

    fits : link_in x < 2 * links_of p
    fits = word-link p x (All-here (first_out h.first) i.fits.words)

    ok : WorkOk (own_of p v) (limit_of p) w
    ok = serve-ok p a s i v x h.within (All-here (first_out h.first) i.fits.words) (first_passes h.first)

    packs : All Packs w.sends
    packs = sends-pack p a v ok.sends

    owns : All (λ y. is_own p v y.edge ≡ true) w.sends
    owns = All-map (λ y o. o.own) ok.sends

    -- it comes from another module, so v sends nothing by its channel
    away : from p (link_in x) ≢ v
    away q = ends-apart p a (link_in x) fits (q ∙ sym (queue-parts p v x (first_passes h.first)).1)

    words-are : (back : List ℕ) → back_of w x ≡ back → s'.words ≡ sent ++ back
    words-are back e = ap (λ (t : State). t.words) h.responds.is ∙ ap (λ b. sent ++ b) e

    gone : w.answer ≢ BACK → s'.words ≡ sent
    unfolding back_of
    gone n = words-are [] (rw (ne_eqb w.answer BACK n) refl) ∙ append-nil sent

    back : w.answer ≡ BACK → s'.words ≡ sent ++ (x ∷ [])
    unfolding back_of
    back e = words-are (x ∷ []) (rw (eq-eqb w.answer BACK e) refl)

    own-stays : chan (link_in x) sent ≡ chan (link_in x) h.rest
    own-stays = post-away p v (link_in x) h.rest packs owns away

    takes : w.answer ≢ BACK → chan (link_in x) s.words ≡ msg_in x ∷ chan (link_in x) s'.words
    takes n = take_own p v x s.words h.rest h.first ∙ ap (λ c. msg_in x ∷ c) (sym (ap (chan (link_in x)) (gone n) ∙ own-stays))

    moves : w.answer ≡ BACK → Later (msg_in x) (chan (link_in x) s.words) (chan (link_in x) s'.words)
    unfolding chan
    moves e = record {
      ahead = ups (link_in x) sent;
      behind = downs (link_in x) sent;
      was = take_own p v x s.words h.rest h.first ∙ ap (λ c. msg_in x ∷ c) (sym own-stays);
      is = ap (chan (link_in x)) (back e) ∙ back-own p v x s.words h.rest h.first sent;
    }

    others : (e : ℕ) → link_in x ≢ e → chan e s'.words ≡ chan e s.words ++ onto p v e w.sends
    others e n = by-eq w.answer BACK
        (λ b. ap (chan e) (back b) ∙ back-other p v x s.words h.rest h.first e sent n)
        (λ b. ap (chan e) (gone b))
        ∙ post-chan p v e h.rest packs ∙ ap (λ c. c ++ onto p v e w.sends) (sym (take-other p v x s.words h.rest h.first e n))

  -- A service that consumes takes the head of its word's channel.
  pub serve-takes : (v : ℕ) → (serve p v s).refusal ≡ 0 → (serve_work p v (served_word p v s) s).answer ≢ BACK
      → chan (link_in (served_word p v s)) s.words ≡ msg_in (served_word p v s) ∷ chan (link_in (served_word p v s)) (serve p v s).state.words
  serve-takes v t =
      let h = took_it (serve-outcome p s v) t in
      subst (λ x. (serve_work p v x s).answer ≢ BACK → chan (link_in x) s.words ≡ msg_in x ∷ chan (link_in x) (serve p v s).state.words) h.at (takes v (serve p v s).state h)

  -- One that puts back moves that head to a later place in it.
  pub serve-puts-back : (v : ℕ) → (serve p v s).refusal ≡ 0 → (serve_work p v (served_word p v s) s).answer ≡ BACK
      → Later (msg_in (served_word p v s)) (chan (link_in (served_word p v s)) s.words) (chan (link_in (served_word p v s)) (serve p v s).state.words)
  serve-puts-back v t =
      let h = took_it (serve-outcome p s v) t in
      subst (λ x. (serve_work p v x s).answer ≡ BACK → Later (msg_in x) (chan (link_in x) s.words) (chan (link_in x) (serve p v s).state.words)) h.at (moves v (serve p v s).state h)

  -- Either appends what it sends to the other channels, and these stay otherwise.
  pub serve-appends : (v : ℕ) → (serve p v s).refusal ≡ 0 → (e : ℕ) → link_in (served_word p v s) ≢ e
      → chan e (serve p v s).state.words ≡ chan e s.words ++ onto p v e (serve_work p v (served_word p v s) s).sends
  serve-appends v t =
      let h = took_it (serve-outcome p s v) t in
      subst (λ x. (e : ℕ) → link_in x ≢ e → chan e (serve p v s).state.words ≡ chan e s.words ++ onto p v e (serve_work p v x s).sends) h.at (others v (serve p v s).state h)
