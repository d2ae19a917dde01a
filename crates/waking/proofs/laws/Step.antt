-- What a step leaves of who woke whom: every step, taken or refused, keeps it (`step-waking`).
use Rattle.std.specs.Prelude.{ℕ, ◌≡◌, ◌≢◌, true, false, cond, eqb}
use Rattle.std.proofs.Math.Path.{refl, ap}
use Rattle.std.proofs.Common.{sym, subst, ◌∙◌, true≢false, ne_eqb, eqb-true}
use mathlib.Core.List.Memᴰ
use mathlib.Core.List.{List, [], ◌∷◌, ◌++◌, append-nil, map, map-append, Memᴰ}
use Rattle.base.proofs.laws.Cond.{by-eq, eqb-diff}
use Rattle.base.specs.Loop.{After}
use Rattle.base.specs.None.{none}
use Rattle.base.specs.Keep.{keep}
use Rattle.base.proofs.laws.Keep.{keep-app, first_passes, first_out}
use Rattle.base.specs.Pool.{All, nil, con}
use Rattle.base.proofs.laws.Pool.{All-map, All-app, All-one, All-here, All-rest}
use Rattle.base.specs.Twice.{NoTwice}
use Rattle.base.proofs.laws.Twice.{NoTwice-behind}
use Rattle.format_word.specs.Word.{link_in}
use Rattle.format_word.proofs.laws.Word.{over}
use Rattle.graph.specs.Graph.{Joins}
use Rattle.graph.proofs.laws.Ways.{flip}
use Rattle.plan.proofs.laws.Accepted.{Accepted}
use Rattle.plan.specs.Links.{Plan, graph_of}
use Rattle.node.specs.declared.Node.{Node}
use Rattle.node.specs.Work.{Send, ASLEEP, start}
use Rattle.node.proofs.laws.Waking.{waking-kept, waking-set, waking-none}
use Rattle.field.specs.Edges.{own_of, link_of, limit_of, from}
use Rattle.field.specs.State.{State, node_at, mark_at, msg_in, posted}
use Rattle.field.specs.Step.{WAKE, HAND, SERVE, serve_work, step}
use Rattle.field.specs.Valid.{word_fits}
use Rattle.field_calls.specs.Trail.{Taken, step_taken, if_taken, wakes_one, Awake, woken_in}
use Rattle.field_laws.proofs.Cases.{Woke, Served, HandedOver, refusal-not-0, StepOutcome, took, kept, FieldStep, wake-step, hand-step, serve-step, step-outcome}
use Rattle.field_laws.proofs.Chan.{queue-parts}
use Rattle.field_laws.proofs.Fits.{send-packs, word-link, word-shaped}
use Rattle.field_laws.proofs.Keeps.{Sound, wake-ok, serve-ok, back-all, step-sound}
use Rattle.field_laws.proofs.Lists.{SendOk}
use Rattle.field_laws.proofs.Places.{from-over}
use Rattle.field_laws.proofs.Ends.{directed-joins}
use Rattle.field_laws.proofs.Sends.{word-parts}
use Rattle.field_roundlaws.proofs.Awake.{awake-as, Responded, node-woken, awake-stays, awake-before, woke-responds, served-responds, serve-wakes, woken-app}
use Rattle.field_roundlaws.proofs.Progress.{node-after}
use Rattle.waking.specs.Claim.{waking_link, by_wake_steps, Before}
use Rattle.waking.proofs.laws.Follow.{before-app, TracedBack, Grown, traced-on, traced-more, traced-root}

-- t, if it woke a module: that is awake, and has the waking link of t
abbrev pub WokenAsTold : Plan → State → Taken → Type 0
WokenAsTold p s t = wakes_one p t ≡ true → Awake p s t.number × ((node_at s t.number).waking ≡ waking_link p t)

-- the steps l from setup on led to s
pub record WokenBy (p : Plan) (l : List Taken) (s : State) : Type 0 where
  pub sound : Sound p s
  -- whoever sent a word that waits is awake
  pub senders : All (λ w. Awake p s (from p (link_in w))) s.words
  pub members : (v : ℕ) → Awake p s v → Memᴰ v (woken_in p l)
  pub awake : All (Awake p s) (woken_in p l)
  pub once : NoTwice (woken_in p l)
  pub told : All (WokenAsTold p s) l
  pub traced : (v : ℕ) → Awake p s v → TracedBack p s l v

steps-app : (l m : List Taken) → by_wake_steps (l ++ m) ≡ by_wake_steps l ++ by_wake_steps m
steps-app l m = ap (map (λ t. t.number)) (keep-app (λ t. eqb t.kind WAKE) l m) ∙ map-append (λ t. t.number) (keep (λ t. eqb t.kind WAKE) l) (keep (λ t. eqb t.kind WAKE) m)

module _ (p : Plan) (a : Accepted p) {l : List Taken} {s : State} (b : WokenBy p l s) (s' : State) (t : Taken) where
  abbrev l' : List Taken
  l' = l ++ (t ∷ [])

  -- ---- what stays

  grown : ((u : ℕ) → Awake p s u → Awake p s' u) → ((u : ℕ) → Awake p s u → (node_at s' u).waking ≡ (node_at s u).waking) → Grown p s l s' l'
  grown there same = record {
    stays = there;
    keeps = same;
    roots = λ u i. subst (Memᴰ u) (sym (steps-app l (t ∷ []))) (Memᴰ.append_left (by_wake_steps (t ∷ [])) i);
    order = λ u w q. subst (Before u w) (sym (woken-app p l (t ∷ []))) (before-app (woken_in p (t ∷ [])) q);
  }

  -- module v responded, and keeps its waking link if it was awake
  module _ (v : ℕ) (r : Responded p v s s') (same : Awake p s v → (node_at s' v).waking ≡ (node_at s v).waking) where
    responded : Grown p s l s' l'
    responded = grown (awake-stays p a s s' b.sound v r)
        (λ u k. by-eq u v
        (λ e. subst (λ d. (node_at s' d).waking ≡ (node_at s d).waking) (sym e) (same (subst (Awake p s) e k)))
        (λ n. ap (λ (m : Node). m.waking) (r.other u n)))

  -- whoever sent the words of v's response is awake
  sent-awake : (v : ℕ) {ss : List Send} → All (SendOk (own_of p v) (limit_of p)) ss → Awake p s' v → All (λ w. Awake p s' (from p (link_in w))) (posted p v ss)
  sent-awake v nil k = nil
  sent-awake v (con {x} h i) k =
      con (subst (Awake p s') (sym (ap (from p) (word-parts p v x (send-packs p a v x h)).link ∙ from-over p v x.edge h.own)) k) (sent-awake v i k)

  -- ---- after the step

  module _ (g : Grown p s l s' l') (sound : Sound p s') (senders : All (λ w. Awake p s' (from p (link_in w))) s'.words) where
    told-on : (y : Taken) → WokenAsTold p s y → WokenAsTold p s' y
    told-on y h e = (g.stays y.number (h e).0, g.keeps y.number (h e).0 ∙ (h e).1)

    none_more : wakes_one p t ≡ false → woken_in p l' ≡ woken_in p l
    unfolding woken_in
    none_more e = woken-app p l (t ∷ []) ∙ rw e (append-nil (woken_in p l))

    -- nobody was woken
    by-none : wakes_one p t ≡ false → ((u : ℕ) → Awake p s' u → Awake p s u) → WokenBy p l' s'
    by-none f back = record {
      sound = sound;
      senders = senders;
      members = λ u k. subst (Memᴰ u) (sym (none_more f)) (b.members u (back u k));
      awake = subst (All (Awake p s')) (sym (none_more f)) (All-map g.stays b.awake);
      once = subst NoTwice (sym (none_more f)) b.once;
      told = All-app (All-map told-on b.told) (All-one (λ e. absurd (true≢false (sym e ∙ f))));
      traced = λ u k. traced-on g u (b.traced u (back u k));
    }

    -- v was woken, by this step
    module _ (yes : wakes_one p t ≡ true) (asleep : (node_at s t.number).status ≡ ASLEEP) (now : Awake p s' t.number)
        (back : (u : ℕ) → u ≢ t.number → Awake p s' u → Awake p s u) where
      one_more : woken_in p l' ≡ woken_in p l ++ (t.number ∷ [])
      unfolding woken_in
      one_more = woken-app p l (t ∷ []) ∙ rw yes refl

      by_one : (node_at s' t.number).waking ≡ waking_link p t → TracedBack p s' l' t.number → WokenBy p l' s'
      by_one link chain =
          let v = t.number in
          record {
            sound = sound;
            senders = senders;
            members = λ u k. subst (Memᴰ u) (sym one_more)
                (by-eq u v (λ e. Memᴰ.append_right (woken_in p l) (Memᴰ.head e)) (λ n. Memᴰ.append_left (v ∷ []) (b.members u (back u n k))));
            awake = subst (All (Awake p s')) (sym one_more) (All-app (All-map g.stays b.awake) (All-one now));
            once = subst NoTwice (sym one_more) (NoTwice-behind b.once (All-map (λ u k e. k.awake (subst (λ d. (node_at s d).status ≡ ASLEEP) e asleep)) b.awake));
            told = All-app (All-map told-on b.told) (All-one (λ e. (now, link)));
            traced = λ u k. by-eq u v (λ e. subst (TracedBack p s' l') (sym e) chain) (λ n. traced-on g u (b.traced u (back u n k)));
          }

-- ---- the three steps

module _ (p : Plan) (a : Accepted p) {l : List Taken} {s : State} (b : WokenBy p l s) (s' : State) where
  by-wake : (v : ℕ) → Woke p v s s' → WokenBy p (l ++ (step_taken WAKE v s ∷ [])) s'
  unfolding wakes_one waking_link keep
  by-wake v h =
      let i = b.sound in
      let t = step_taken WAKE v s in
      let r = woke-responds p a s s' i v h in
      let g = responded p a b s' t v r (λ k. absurd (k.awake h.asleep)) in
      let unlinked : (node_at s' v).waking ≡ none = ap (λ (m : Node). m.waking) (node-woken p a s s' i v h) ∙ waking-none (own_of p v) (node_at s v) (mark_at p s v) in
      by_one p a b s' t g (step-sound p a s i WAKE v s' (wake-step h))
      (subst (λ y. All (λ x. Awake p s' (from p (link_in x))) y.words) (sym h.responds.is)
      (All-app (All-app (All-map (λ x. g.stays (from p (link_in x))) b.senders) (sent-awake p a b s' t v (wake-ok p a s i v h.within).sends r.now)) nil))
      refl h.asleep r.now (awake-before p a s s' b.sound v r) unlinked
      (traced-root p s' (l ++ (t ∷ [])) v r.now unlinked (subst (Memᴰ v) (sym (steps-app l (t ∷ []))) (Memᴰ.append_right (by_wake_steps l) (Memᴰ.head refl))))

  by_hand : (d : ℕ) → HandedOver p d s s' → WokenBy p (l ++ (step_taken HAND d s ∷ [])) s'
  unfolding wakes_one
  by_hand d h =
      let i = b.sound in
      let t = step_taken HAND d s in
      let same : (v : ℕ) → node_at s' v ≡ node_at s v = λ v. ap (λ y. node_at y v) h.is in
      let there : (v : ℕ) → Awake p s v → Awake p s' v = λ v k. awake-as (same v) k in
      let g = grown p a b s' t there (λ v k. ap (λ (m : Node). m.waking) (same v)) in
      let o = first_out h.first in
      let raised = over h.word (eqb-true _ 1 (word-shaped p h.word (All-here o i.fits.words))) in
      by-none p a b s' t g (step-sound p a s i HAND d s' (hand-step h))
      (subst (λ y. All (λ x. Awake p s' (from p (link_in x))) y.words) (sym h.is)
      (All-app (All-map (λ x. there (from p (link_in x))) (All-rest o b.senders)) (All-one (subst (λ e. Awake p s' (from p e)) (sym raised.link) (there _ (All-here o b.senders))))))
      refl (λ v k. awake-as (sym (same v)) k)

  module _ (v : ℕ) (h : Served p v s s') where
    abbrev x : ℕ
    x = h.word

    abbrev k : ℕ
    k = link_of (link_in x)

    abbrev t : Taken
    t = step_taken SERVE v s

    r : Responded p v s s'
    r = served-responds p a s s' b.sound v h

    fits : word_fits p x ≡ true
    fits = All-here (first_out h.first) b.sound.fits.words

    -- the words that wait: those that stayed, v's, and x where it was put back
    after-serving : Grown p s l s' (l ++ (t ∷ [])) → All (λ w. Awake p s' (from p (link_in w))) s'.words
    after-serving g =
        let o = first_out h.first in
        let w = serve_work p v x s in
        subst (λ y. All (λ z. Awake p s' (from p (link_in z))) y.words) (sym h.responds.is)
        (All-app
        (All-app (All-map (λ z. g.stays (from p (link_in z))) (All-rest o b.senders))
        (sent-awake p a b s' t v (serve-ok p a s b.sound v x h.within fits (first_passes h.first)).sends r.now))
        (back-all w x (g.stays (from p (link_in x)) (All-here o b.senders))))

    not-woken : (node_at s v).status ≢ ASLEEP → wakes_one p t ≡ false
    unfolding wakes_one
    not-woken n = rw (ne_eqb _ ASLEEP n) refl

    -- v was awake: it keeps its waking link
    by-awake : (node_at s v).status ≢ ASLEEP → WokenBy p (l ++ (t ∷ [])) s'
    by-awake n =
        let same : (node_at s' v).waking ≡ (node_at s v).waking =
        ap (λ (m : Node). m.waking) (node-after p a s s' v b.sound h) ∙ waking-kept (own_of p v) (limit_of p) k (start (node_at s v) (mark_at p s v)) (msg_in x) n in
        let g = responded p a b s' t v r (λ q. same) in
        by-none p a b s' t g (step-sound p a s b.sound SERVE v s' (serve-step h)) (after-serving g) (not-woken n)
        (λ u q. by-eq u v (λ e. subst (Awake p s) (sym e) (record { within = h.within; awake = n })) (λ d. awake-before p a s s' b.sound v r u d q))

    -- v slept: the message from u woke it
    by-message : (node_at s v).status ≡ ASLEEP → WokenBy p (l ++ (t ∷ [])) s'
    unfolding waking_link
    by-message z =
        let u = from p (link_in x) in
        let up : Awake p s u = All-here (first_out h.first) b.senders in
        let g = responded p a b s' t v r (λ q. absurd (q.awake z)) in
        let yes = serve-wakes p s s' v h z in
        let back = awake-before p a s s' b.sound v r in
        let link : (node_at s' v).waking ≡ k =
        ap (λ (m : Node). m.waking) (node-after p a s s' v b.sound h) ∙ waking-set (own_of p v) (limit_of p) k (start (node_at s v) (mark_at p s v)) (msg_in x) z h.responds.fine in
        let leads = flip (subst (λ y. Joins (graph_of p) k u y) (queue-parts p v x (first_passes h.first)).1 (directed-joins p (link_in x) (word-link p x fits))) in
        let sound = step-sound p a s b.sound SERVE v s' (serve-step h) in
        by_one p a b s' t g sound (after-serving g) yes z r.now back
        (link ∙ ap (λ w. link_of (link_in w)) h.at)
        (traced-more g v u k z r.now link leads (b.members u up) (one_more p a b s' t g sound (after-serving g) yes z r.now back) (b.traced u up))

-- EVERY STEP, taken or refused
pub step-waking : (p : Plan) (a : Accepted p) (kind number : ℕ) (s : State) (l : List Taken) → WokenBy p l s → WokenBy p (l ++ if_taken p kind number s) (step p kind number s).state
unfolding if_taken
step-waking p a kind number s l b = go (step-outcome p s kind number)
  where
    taken : (m n : ℕ) (s' : State) → FieldStep p s m n s' → WokenBy p (l ++ (step_taken m n s ∷ [])) s'
    taken _ _ s' (wake-step {v} h) = by-wake p a b s' v h
    taken _ _ s' (hand-step {d} h) = by_hand p a b s' d h
    taken _ _ s' (serve-step {v} h) = by-eq (node_at s v).status ASLEEP (by-message p a b s' v h) (by-awake p a b s' v h)

    go : {r : After State} → StepOutcome s (FieldStep p s kind number) r → WokenBy p (l ++ cond (eqb r.refusal 0) (step_taken kind number s ∷ []) []) r.state
    go (took {s'} h) = taken kind number s' h
    go (kept r h) = rw (eqb-diff r 0 (refusal-not-0 r h)) (subst (λ m. WokenBy p m s) (sym (append-nil l)) b)
