-- Rounds come to rest (`rested`): each that starts with a word waiting raises progress (`rounded`), which is at most M + N.
use Prim.Native.Nat.{ℕ, zero, suc, ◌+◌, ◌*◌, ◌/◌, ◌^◌, ◌≤◌, ◌<◌}
use Rattle.std.proofs.Common.{arith, ap, ap₂, subst, ⊎_elim, eqb-true, eq-eqb}
use Rattle.std.specs.Prelude.{◌≡◌, ◌≢◌, ◌⊎◌, true, not, cond, ◌&&◌, List, [], ◌∷◌, length, eqb}
use Rattle.std.proofs.Math.Path.{refl}
use Rattle.std.proofs.Math.Logic.{inl, inr}
use Rattle.base.proofs.laws.Cond.{bool_cases, eqb-cases}
use Rattle.base.specs.Loop.{Ran, runs, counted_turn}
use Rattle.base.proofs.laws.Loop.{Ok, then-on}
use Rattle.base.specs.Pool.{All, nil, con}
use Rattle.base.proofs.laws.Pool.{All-map}
use Rattle.base.specs.Keep.{keep}
use Rattle.base.proofs.laws.Keep.{no_length, keep-yes, keep-no}
use Rattle.format_message.specs.Header.{kind_at, level_at, find_at, msg_of}
use Rattle.format_word.specs.Word.{header_in, carried_in, link_in, handed_in, shaped, hand_over}
use Rattle.format_word.proofs.laws.Word.{Unpacked, over}
use Rattle.plan.proofs.laws.Accepted.{Accepted}
use Rattle.plan.specs.Links.{Plan, modules_of, links_of}
use Rattle.node.specs.Work.{ASLEEP, BACK}
use Rattle.node.specs.Rules.{respond}
use Rattle.field.specs.Edges.{dest, ceiling_of, own_of, limit_of, link_of}
use Rattle.field.specs.State.{State, node_at, mark_at, msg_in}
use Rattle.field.specs.Step.{in_queue}
use Rattle.field.specs.Valid.{word_fits}
use Rattle.field_calls.specs.Rounds.{hand_phase, serve_phase, round, at_rest, rounds_run}
use Rattle.field_laws.proofs.Chan.{made}
use Rattle.field_laws.proofs.Places.{dest-below}
use Rattle.field_laws.proofs.Fits.{word-link}
use Rattle.field_laws.proofs.Keeps.{Sound}
use Rattle.field_roundlaws.proofs.Progress.{progress, awake-le, progress-le, BlockedWord}
use Rattle.field_roundlaws.proofs.Calm.{Calm, still-progress, still-blocked}
use Rattle.field_roundlaws.proofs.Handing.{Handing, handing, all-handed}
use Rattle.field_roundlaws.proofs.Serving.{Calmly, served-phase}

-- what holds in each queue holds of all words, once every word was handed over
module _ (p : Plan) (a : Accepted p) {B : ℕ → Type 0} where
  head-all : {x : ℕ} {l : List ℕ} → All B (x ∷ l) → B x
  head-all (con h t) = h

  tail_all : {x : ℕ} {l : List ℕ} → All B (x ∷ l) → All B l
  tail_all (con h t) = t

  cover : (l : List ℕ) → All (λ w. word_fits p w ≡ true) l → All (λ w. handed_in w ≡ true) l → ((u : ℕ) → u < modules_of p → All B (keep (in_queue p u) l)) → All B l
  cover [] f h q = nil
  cover (x ∷ l) (con f fs) (con h hs) q =
      let u = dest p (link_in x) in
      con (head-all (subst (All B) (keep-yes (in_queue p u) x l (made (handed_in x) u u h refl)) (q u (dest-below p a (link_in x) (word-link p x f)))))
      (cover l fs hs (λ v less. bool_cases (in_queue p v x)
      (λ e. tail_all (subst (All B) (keep-yes (in_queue p v) x l e) (q v less)))
      (λ e. subst (All B) (keep-no (in_queue p v) x l e) (q v less))))

-- a word that is blocked once handed over is blocked
blocked-low : (p : Plan) (s : State) (x : ℕ) → shaped x ≡ true → BlockedWord p s (hand_over x) → BlockedWord p s x
blocked-low p s x shape b = record {
  back = subst (λ d. (respond (own_of p (dest p d)) (limit_of p) (msg_in x) (link_of d) (node_at s (dest p d)) (mark_at p s (dest p d))).answer ≡ BACK) u.link
      (subst (λ m. (respond (own_of p (dest p d')) (limit_of p) m (link_of d') (node_at s (dest p d')) (mark_at p s (dest p d'))).answer ≡ BACK) says b.back);
  awake = subst (λ d. (node_at s (dest p d)).status ≢ ASLEEP) u.link b.awake;
}
  where
    u : Unpacked (header_in x) (carried_in x) (link_in x) 1 (hand_over x)
    u = over x (eqb-true (x / 2 ^ 41) 1 shape)

    d' : ℕ
    d' = link_in (hand_over x)

    says : msg_in (hand_over x) ≡ msg_in x
    says = ap₂ (λ h c. msg_of (kind_at h) (level_at h) c (find_at h)) u.header u.carried

module _ (p : Plan) (a : Accepted p) (Good : State → Type 0) (calm : Calm p Good) where
  -- a round from f that left y
  pub record Rounded (f y : State) : Type 0 where
    pub sound : Sound p y
    pub good : Good y
    pub moves : (progress p f < progress p y) ⊎ (f.words ≡ [])

  -- THE LAW of one round: no step is refused, and it raises progress unless nothing waited
  pub rounded : (f : State) → Sound p f → Good f → Ok (Rounded f) (round p f)
  unfolding round
  rounded f i g =
      let h = handing p a Good calm (BlockedWord p f) (blocked-low p f) f i g in
      let m = (hand_phase p f).state in
      let k = h.holds in
      let s = served-phase p a Good calm m k.sound k.good in
      let y = (serve_phase p m).state in
      rw (then-on (hand_phase p f) (serve_phase p) h.fine)
      (record {
        fine = s.fine;
        holds = record { sound = s.holds.sound; good = s.holds.good; moves = go m y k s.holds.quiet };
      })
    where
      go : (m y : State) → Handing p a Good calm (BlockedWord p f) (blocked-low p f) f (2 * links_of p) m → (progress p m < progress p y) ⊎ Calmly p a Good calm m (modules_of p) y
          → (progress p f < progress p y) ⊎ (f.words ≡ [])
      go m y k (inl less) = inl (omega (arith, still-progress p f m k.still k.long))
      go m y k (inr c) = inr (calm.stuck f i g (k.back (All-map (λ x b. still-blocked p f m k.still x b)
          (cover p a m.words k.sound.fits.words (all-handed p m.words k.sound.fits.words k.empty) c.blocked))))

  -- ---- a run of rounds

  record Going (f : State) (n : ℕ) (r : Ran State) : Type 0 where
    refusal : r.refusal ≡ 0
    sound : Sound p r.state
    good : Good r.state
    risen : r.done + progress p f ≤ progress p r.state
    ended : (r.done ≡ n) ⊎ (r.state.words ≡ [])

  going_on : (f : State) (n : ℕ) (r : Ran State) → Going f n r
      → Going f (suc n) (cond (eqb r.refusal 0 && not (at_rest r.state)) (counted_turn r.done (round p r.state)) r)
  going_on f n r k = rw (eq-eqb r.refusal 0 k.refusal) (eqb-cases (length r.state.words) 0
      (λ b. Going f (suc n) (cond (not b) (counted_turn r.done (round p r.state)) r))
      (λ e. record { refusal = k.refusal; sound = k.sound; good = k.good; risen = k.risen; ended = inr (no_length _ e) })
      (λ z. let o = rounded r.state k.sound k.good in
      rw o.fine
      (record {
        refusal = refl;
        sound = o.holds.sound;
        good = o.holds.good;
        risen = ⊎_elim (λ m. omega (arith, k.risen)) (λ e. absurd (z (ap length e))) o.holds.moves;
        ended = ⊎_elim (λ e. inl (ap suc e)) (λ e. absurd (z (ap length e))) k.ended;
      })))

  going : (f : State) → Sound p f → Good f → (n : ℕ) → Going f n (rounds_run p n f)
  unfolding runs
  going f i g zero = record { refusal = refl; sound = i; good = g; risen = omega arith; ended = inl refl }
  going f i g (suc n) = going_on f n (rounds_run p n f) (going f i g n)

  -- all that could be sent was consumed
  full : (f : State) (limit : ℕ) (r : Ran State) → Going f limit r → r.done ≡ limit → ceiling_of p + modules_of p ≤ limit → r.state.words ≡ []
  unfolding progress
  full f limit r k e l = no_length r.state.words
      (omega (arith, k.risen, k.sound.fits.waiting, k.sound.fits.ceiling, awake-le p r.state))

  -- THE LAW of a run of rounds: never refused; at rest within M + N rounds, if its limit lets it
  pub record Rested (limit : ℕ) (r : Ran State) : Type 0 where
    pub refusal : r.refusal ≡ 0
    pub within : r.done ≤ ceiling_of p + modules_of p
    pub rest : ceiling_of p + modules_of p ≤ limit → r.state.words ≡ []

  pub rested : (f : State) → Sound p f → Good f → (limit : ℕ) → Rested limit (rounds_run p limit f)
  rested f i g limit =
      let k = going f i g limit in
      let r = rounds_run p limit f in
      record {
        refusal = k.refusal;
        within = omega (arith, k.risen, progress-le p r.state k.sound);
        rest = λ l. ⊎_elim (λ e. full f limit r k e l) (λ e. e) k.ended;
      }
