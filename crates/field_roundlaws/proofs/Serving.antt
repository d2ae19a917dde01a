-- The second half of a round: every node serves as many as its queue held. No service is refused, and where progress does not rise each word of
-- the queues was blocked (`served-phase`).
use Rattle.std.specs.Prelude.{ℕ, suc, ◌≤◌, ◌<◌, ◌≡◌, ◌≢◌, ◌⊎◌, false, List, [], ◌∷◌, ◌++◌, length}
use Rattle.std.proofs.Common.{arith, not-suc-le-zero, ap, subst, ◌∙◌, inl, append-nil, append_assoc, length-append}
use Rattle.std.proofs.Math.Path.{refl, sym}
use Rattle.std.proofs.Math.Logic.{inr}
use Rattle.base.proofs.laws.Search.{lt-suc-cases}
use Rattle.base.proofs.laws.Loop.{Ok, loop-ok}
use Rattle.base.specs.Pool.{All, nil, con}
use Rattle.base.proofs.laws.Pool.{All-app, All-one, All-map, All-here}
use Rattle.base.specs.Keep.{keep}
use Rattle.base.proofs.laws.Keep.{no_length, keep-nil, keep-app, keep-none, keep-no, first_out, first_passes, head_of, others}
use Rattle.format_word.specs.Word.{link_in, handed_in}
use Rattle.plan.proofs.laws.Accepted.{Accepted}
use Rattle.plan.specs.Links.{Plan, modules_of}
use Rattle.node.specs.Work.{Work, Send}
use Rattle.field.specs.Edges.{dest}
use Rattle.field.specs.State.{State, word_of, posted}
use Rattle.field.specs.Step.{in_queue, serve_work, back_of, serve, step}
use Rattle.field_calls.specs.Rounds.{serve_turn, serve_phase}
use Rattle.field_laws.proofs.Cases.{Served, serve-outcome, took_it, serve-fine}
use Rattle.field_laws.proofs.Chan.{queue-parts, not_left, not_right}
use Rattle.field_laws.proofs.Sends.{Packs, send-reads}
use Rattle.field_laws.proofs.Fits.{sends-pack}
use Rattle.field_laws.proofs.Keeps.{Sound, step_keeps, serve-ok, out-length}
use Rattle.field_roundlaws.proofs.Progress.{progress, BlockedWord, Still, Moved, serve-moves}
use Rattle.field_roundlaws.proofs.Calm.{Calm, many-keep, still-same, still-on, still-progress, still-blocked}

-- what is sent is in no queue
posted-none : (p : Plan) (u v : ℕ) {l : List Send} → All Packs l → keep (in_queue p u) (posted p v l) ≡ []
posted-none p u v nil = keep-nil (in_queue p u)
posted-none p u v (con {x} {xs} h t) =
    keep-no (in_queue p u) (word_of p v x) (posted p v xs) (not_left (handed_in (word_of p v x)) (dest p (link_in (word_of p v x))) u (send-reads p v x h).handed) ∙ posted-none p u v t

cons-inj : {x y : ℕ} {l m : List ℕ} → x ∷ l ≡ y ∷ m → (x ≡ y) × (l ≡ m)
cons-inj e = (cc, cc)

module _ (p : Plan) (a : Accepted p) (Good : State → Type 0) (calm : Calm p Good) where
  -- from y to z nothing moved but blocked words, `done` among them, to the end of v's queue
  record Quiet (v : ℕ) (y : State) (done : List ℕ) (z : State) : Type 0 where
    still : Still y z
    same : progress p z ≡ progress p y
    blocked : All (BlockedWord p y) done
    other : (u : ℕ) → v ≢ u → keep (in_queue p u) z.words ≡ keep (in_queue p u) y.words

  -- after j services of v's turn, which began at y: `done` are served, `left` wait still, `again` came since
  record Serving (v : ℕ) (y : State) (j : ℕ) (z : State) : Type 0 where
    sound : Sound p z
    good : Good z
    done : List ℕ
    left : List ℕ
    again : List ℕ
    split : keep (in_queue p v) y.words ≡ done ++ left
    many : length done ≡ j
    queue : keep (in_queue p v) z.words ≡ left ++ again
    quiet : (progress p y < progress p z) ⊎ Quiet v y done z

  module _ (v : ℕ) (y z : State) (l : v < modules_of p) where
    abbrev z' : State
    z' = (serve p v z).state

    sound-on : Sound p z → Sound p z'
    unfolding step
    sound-on i = step_keeps p a z i 3 v

    good-on : Sound p z → Good z → Good z'
    unfolding step
    good-on i g = calm.keeps 3 v z i g

    -- the queues afterwards
    module _ (i : Sound p z) (h : Served p v z z') where
      abbrev w : Work
      w = serve_work p v h.word z

      after : (u : ℕ) → keep (in_queue p u) z'.words ≡ keep (in_queue p u) h.rest ++ keep (in_queue p u) (back_of w h.word)
      after u =
          let f = All-here (first_out h.first) i.fits.words in
          let packs = sends-pack p a v (serve-ok p a z i v h.word l f (first_passes h.first)).sends in
          let b = back_of w h.word in
          let r = h.rest in
          ap (λ (t : State). keep (in_queue p u) t.words) h.responds.is
          ∙ keep-app (in_queue p u) (r ++ posted p v w.sends) b
          ∙ ap (λ m. m ++ keep (in_queue p u) b)
          (keep-app (in_queue p u) r (posted p v w.sends) ∙ ap (λ m. keep (in_queue p u) r ++ m) (posted-none p u v packs) ∙ append-nil (keep (in_queue p u) r))

      -- the word that was taken is the queue's head
      head : keep (in_queue p v) z.words ≡ h.word ∷ keep (in_queue p v) h.rest
      head = head_of (in_queue p v) (λ x q. q) (first_passes h.first) h.first

      -- no other queue has it
      elsewhere : (u : ℕ) → v ≢ u → in_queue p u h.word ≡ false
      elsewhere u n = not_right (handed_in h.word) (dest p (link_in h.word)) u (λ q. n (sym (queue-parts p v h.word (first_passes h.first)).1 ∙ q))

      -- what a blocked word leaves alone
      module _ (t : Moved p a z z' v i h) where
        moved_same : progress p z' ≡ progress p z
        moved_same = still-progress p z z' t.still (ap length t.words ∙ omega (arith, length-append h.rest (h.word ∷ []), out-length (first_out h.first)))

        moved_other : (u : ℕ) → v ≢ u → keep (in_queue p u) z'.words ≡ keep (in_queue p u) z.words
        moved_other u n =
            ap (keep (in_queue p u)) t.words ∙ keep-app (in_queue p u) h.rest (h.word ∷ [])
            ∙ ap (λ m. keep (in_queue p u) h.rest ++ m) (keep-none (in_queue p u) h.word (elsewhere u n)) ∙ append-nil (keep (in_queue p u) h.rest)
            ∙ sym (others (in_queue p u) (elsewhere u n) h.first)

      quiet-on : (c : ℕ) (done : List ℕ) → h.word ≡ c → (progress p y < progress p z) ⊎ Quiet v y done z → (progress p z < progress p z') ⊎ Moved p a z z' v i h
          → (progress p y < progress p z') ⊎ Quiet v y (done ++ (c ∷ [])) z'
      quiet-on c done e (inl q) (inl m) = inl (omega arith)
      quiet-on c done e (inl q) (inr t) = inl (omega (arith, moved_same t))
      quiet-on c done e (inr q) (inl m) = inl (omega (arith, q.same))
      quiet-on c done e (inr q) (inr t) = inr
          (record {
            still = still-on q.still t.still;
            same = moved_same t ∙ q.same;
            blocked = All-app q.blocked (All-one (subst (BlockedWord p y) e (still-blocked p y z q.still h.word t.blocked)));
            other = λ u n. moved_other t u n ∙ q.other u n;
          })

      -- one service more
      serving-on : (j : ℕ) (done left again : List ℕ) → j < length (keep (in_queue p v) y.words) → keep (in_queue p v) y.words ≡ done ++ left → length done ≡ j
          → keep (in_queue p v) z.words ≡ left ++ again → (progress p y < progress p z) ⊎ Quiet v y done z → Sound p z' → Good z' → Serving v y (suc j) z'
      serving-on j done [] again less sp many q quiet so go = absurd (omega (arith, ap length sp, length-append done [], many))
      serving-on j done (c ∷ left) again less sp many q quiet so go =
          let e = cons-inj (sym head ∙ q) in
          let b = keep (in_queue p v) (back_of w h.word) in
          record {
            sound = so;
            good = go;
            done = done ++ (c ∷ []);
            left = left;
            again = again ++ b;
            split = sp ∙ sym (append_assoc done (c ∷ []) left);
            many = length-append done (c ∷ []) ∙ omega (arith, many);
            queue = after v ∙ ap (λ m. m ++ b) e.1 ∙ append_assoc left again b;
            quiet = quiet-on c done e.0 quiet (serve-moves p a z z' v i h);
          }

    turn_on : (j : ℕ) → j < length (keep (in_queue p v) y.words) → Serving v y j z → Ok (Serving v y (suc j)) (serve p v z)
    turn_on j less t =
        let ok = calm.unrefused v z t.sound t.good in
        let some : 1 ≤ length (keep (in_queue p v) z.words) =
        omega (arith, ap length t.queue, length-append t.left t.again, ap length t.split, length-append t.done t.left, t.many) in
        let fine = serve-fine p z v l some ok.0 ok.1 in
        record {
          fine = fine;
          holds = serving-on t.sound (took_it (serve-outcome p z v) fine) j t.done t.left t.again less t.split t.many t.queue t.quiet (sound-on t.sound) (good-on t.sound t.good);
        }

  -- the whole turn of v
  turn-all : (v : ℕ) (y : State) → v < modules_of p → Sound p y → Good y → Ok (Serving v y (length (keep (in_queue p v) y.words))) (serve_turn p v y)
  unfolding serve_turn
  turn-all v y l i g = rw (many-keep (in_queue p v) y.words)
      (loop-ok (Serving v y) (length (keep (in_queue p v) y.words)) (λ j. serve p v) y
      (record {
        sound = i;
        good = g;
        done = [];
        left = keep (in_queue p v) y.words;
        again = [];
        split = refl;
        many = refl;
        queue = sym (append-nil (keep (in_queue p v) y.words));
        quiet = inr (record { still = still-same y; same = refl; blocked = nil; other = λ u n. refl });
      })
      (λ j z less t. turn_on v y z l j less t))

  -- all that waited at the turn's start is done
  served-all : (v : ℕ) (y z : State) (t : Serving v y (length (keep (in_queue p v) y.words)) z) → keep (in_queue p v) y.words ≡ t.done
  served-all v y z t = t.split ∙ ap (λ m. t.done ++ m) (no_length t.left (omega (arith, ap length t.split, length-append t.done t.left, t.many))) ∙ append-nil t.done

  -- ---- the phase, which began at m

  -- nothing moved but blocked words: those of the nodes below k are, and the other queues are as they were
  pub record Calmly (m : State) (k : ℕ) (z : State) : Type 0 where
    pub still : Still m z
    pub same : progress p z ≡ progress p m
    pub blocked : (u : ℕ) → u < k → All (BlockedWord p m) (keep (in_queue p u) m.words)
    pub later : (u : ℕ) → k ≤ u → keep (in_queue p u) z.words ≡ keep (in_queue p u) m.words

  pub record Phase (m : State) (k : ℕ) (z : State) : Type 0 where
    pub sound : Sound p z
    pub good : Good z
    pub quiet : (progress p m < progress p z) ⊎ Calmly m k z

  phase-quiet : (m : State) (k : ℕ) (y z : State) (t : Serving k y (length (keep (in_queue p k) y.words)) z)
      → (progress p m < progress p y) ⊎ Calmly m k y → (progress p y < progress p z) ⊎ Quiet k y t.done z → (progress p m < progress p z) ⊎ Calmly m (suc k) z
  phase-quiet m k y z t (inl a) (inl b) = inl (omega arith)
  phase-quiet m k y z t (inl a) (inr q) = inl (omega (arith, q.same))
  phase-quiet m k y z t (inr c) (inl b) = inl (omega (arith, c.same))
  phase-quiet m k y z t (inr c) (inr q) = inr
      (record {
        still = still-on c.still q.still;
        same = q.same ∙ c.same;
        blocked = λ u l. lt-suc-cases u k l
            (λ e. subst (λ i. All (BlockedWord p m) (keep (in_queue p i) m.words)) (sym e)
            (subst (All (BlockedWord p m)) (sym (served-all k y z t) ∙ c.later k (omega arith)) (All-map (λ x b. still-blocked p m y c.still x b) q.blocked)))
            (λ lt. c.blocked u lt);
        later = λ u l. q.other u (λ e. omega arith) ∙ c.later u (omega arith);
      })

  -- THE LAW of the second half
  pub served-phase : (m : State) → Sound p m → Good m → Ok (Phase m (modules_of p)) (serve_phase p m)
  served-phase m i g = loop-ok (Phase m) (modules_of p) (serve_turn p) m
      (record { sound = i; good = g; quiet = inr (record { still = still-same m; same = refl; blocked = λ u l. absurd (not-suc-le-zero l); later = λ u l. refl }) })
      (λ k y l t. let r = turn-all k y l t.sound t.good in
      record { fine = r.fine; holds = record { sound = r.holds.sound; good = r.holds.good; quiet = phase-quiet m k y (serve_turn p k y).state r.holds t.quiet r.holds.quiet } })
