-- A module that was woken stays awake, and nobody else is awake: after a list of calls from a setup exactly the modules woken in it are awake
-- (`exactly-woken`, `others-asleep`).
use Rattle.std.specs.Prelude.{ℕ, ◌<◌, ◌≡◌, refl, ◌≢◌, ◌⊎◌, ◌↔◌, true, cond, ◌||◌, eqb}
use Rattle.std.proofs.Common.{arith, sym, ap₂, subst, ◌∙◌, ⊎_elim, eq-eqb, ne_eqb}
use Rattle.std.proofs.Math.Path.{ap}
use Rattle.std.proofs.Math.Logic.{inl, inr}
use mathlib.Core.List.Memᴰ
use mathlib.Core.List.{List, [], ◌∷◌, ◌++◌, Memᴰ}
use Rattle.base.proofs.laws.Cond.{by-eq, eqb-diff}
use Rattle.base.specs.None.{none}
use Rattle.base.specs.Loop.{After}
use Rattle.base.proofs.laws.Loop.{by-test}
use Rattle.base.specs.Pool.{All, nil, con}
use Rattle.base.proofs.laws.Pool.{All-map, All-app, All-one}
use Rattle.format_message.specs.Header.{kind_at, level_at, find_at}
use Rattle.format_word.specs.Word.{header_in, carried_in, link_in}
use Rattle.plan.proofs.laws.Accepted.{Accepted, accepted}
use Rattle.plan.specs.Links.{Plan, modules_of}
use Rattle.plan.specs.Trimmed.{trimmed}
use Rattle.node.specs.declared.Node.{Node}
use Rattle.node.specs.Work.{ASLEEP, start}
use Rattle.field.specs.Edges.{own_of, link_of, limit_of}
use Rattle.field.specs.State.{State, node_at, mark_at}
use Rattle.field.specs.Step.{wake_work, SERVE, step}
use Rattle.field.specs.Held.{Held, state_of, set_up}
use Rattle.field_calls.specs.Call.{Call, after}
use Rattle.field_calls.specs.Trail.{Taken, if_taken, trail, wakes_one, Awake, woken_in}
use Rattle.field_laws.proofs.Cases.{Woke, Served, refusal-not-0, StepOutcome, took, kept, FieldStep, wake-step, hand-step, serve-step, step-outcome}
use Rattle.field_laws.proofs.Places.{node-same, node-other}
use Rattle.field_laws.proofs.Keeps.{Sound, step_keeps}
use Rattle.field_laws.proofs.Laid.{Live, live-sound}
use Rattle.field_laws.proofs.After.{fresh-node, started, begun-live, list_tells}
use Rattle.field_roundlaws.proofs.Steady.{steady-wake, refused-asleep}
use Rattle.field_roundlaws.proofs.Progress.{awake-now, other_after}

-- who has the same values is as awake
pub awake-as : {p : Plan} {x y : State} {v : ℕ} → node_at y v ≡ node_at x v → Awake p x v → Awake p y v
awake-as e k = record { within = k.within; awake = λ z. k.awake (sym (ap (λ (n : Node). n.status) e) ∙ z) }

-- v responded: it is awake, and the others are as they were
pub record Responded (p : Plan) (v : ℕ) (s s' : State) : Type 0 where
  pub now : Awake p s' v
  pub other : (u : ℕ) → u ≢ v → node_at s' u ≡ node_at s u

module _ (p : Plan) (a : Accepted p) (s s' : State) (i : Sound p s) where
  pub node-woken : (v : ℕ) → Woke p v s s' → node_at s' v ≡ (wake_work p v s).node
  node-woken v h = ap (λ t. node_at t v) h.responds.is ∙ node-same s.cells v (wake_work p v s).node (omega (arith, i.sized.cells, h.within))

  pub woke-responds : (v : ℕ) → Woke p v s s' → Responded p v s s'
  woke-responds v h = record {
    now = record {
      within = h.within;
      awake = λ e. (steady-wake (own_of p v) none (start (node_at s v) (mark_at p s v)) (λ q. omega arith)).awake (sym (ap (λ (n : Node). n.status) (node-woken v h)) ∙ e);
    };
    other = λ u n. ap (λ t. node_at t u) h.responds.is ∙ node-other s.cells v (wake_work p v s).node u n;
  }

  pub served-responds : (v : ℕ) → Served p v s s' → Responded p v s s'
  served-responds v h = record { now = record { within = h.within; awake = awake-now p a s s' v i h }; other = other_after p a s s' v i h }

  pub awake-stays : (v : ℕ) → Responded p v s s' → (u : ℕ) → Awake p s u → Awake p s' u
  awake-stays v r u k = by-eq u v
      (λ e. subst (Awake p s') (sym e) r.now)
      (λ n. awake-as (r.other u n) k)

  -- who is awake and did not respond was awake
  pub awake-before : (v : ℕ) → Responded p v s s' → (u : ℕ) → u ≢ v → Awake p s' u → Awake p s u
  awake-before v r u n k = awake-as (sym (r.other u n)) k

-- a sleeper whose service is taken is woken by it: a message of another kind would be refused
pub serve-wakes : (p : Plan) (s s' : State) (v : ℕ) → Served p v s s' → (node_at s v).status ≡ ASLEEP → wakes_one p (record { kind = SERVE; number = v; at = s }) ≡ true
unfolding wakes_one
serve-wakes p s s' v h e = rw (eq-eqb _ ASLEEP e) (subst (λ x. (eqb (kind_at (header_in x)) 1 || eqb (kind_at (header_in x)) 3) ≡ true) h.at listed)
  where
    header : ℕ
    header = header_in h.word

    listed : (eqb (kind_at header) 1 || eqb (kind_at header) 3) ≡ true
    listed = by-eq (kind_at header) 1 (λ q. rw (eq-eqb (kind_at header) 1 q) refl)
        (λ n₁. by-eq (kind_at header) 3 (λ q. ap₂ ◌||◌ (ne_eqb (kind_at header) 1 n₁) (eq-eqb (kind_at header) 3 q))
        (λ n₃. absurd (h.responds.fine (refused-asleep (own_of p v) (limit_of p) (link_of (link_in h.word)) (start (node_at s v) (mark_at p s v)) e (kind_at header) (level_at header) (carried_in h.word) (find_at header) n₁ n₃))))

-- from x the steps l were taken and left y
pub record Wakes (p : Plan) (x : State) (l : List Taken) (y : State) : Type 0 where
  pub sound : Sound p y
  pub woken : All (Awake p y) (woken_in p l)
  pub stays : (v : ℕ) → Awake p x v → Awake p y v
  -- nobody else is awake
  pub only : (v : ℕ) → Awake p y v → Awake p x v ⊎ Memᴰ v (woken_in p l)

pub woken-app : (p : Plan) (l m : List Taken) → woken_in p (l ++ m) ≡ woken_in p l ++ woken_in p m
unfolding woken_in
woken-app p [] m = refl
woken-app p (t ∷ l) m = by-test (wakes_one p t) (λ b. cond b (t.number ∷ woken_in p (l ++ m)) (woken_in p (l ++ m)) ≡ cond b (t.number ∷ woken_in p l) (woken_in p l) ++ woken_in p m)
    (ap (λ r. t.number ∷ r) (woken-app p l m)) (woken-app p l m)

module _ (p : Plan) (a : Accepted p) where
  pub wakes-none : (x : State) → Sound p x → Wakes p x [] x
  unfolding woken_in
  wakes-none x i = record { sound = i; woken = nil; stays = λ v k. k; only = λ v k. inl k }

  pub wakes-more : (x y z : State) (l m : List Taken) → (Sound p x → Wakes p x l y) → (Sound p y → Wakes p y m z) → Sound p x → Wakes p x (l ++ m) z
  wakes-more x y z l m f g i =
      let b = f i in
      let c = g b.sound in
      record {
        sound = c.sound;
        woken = subst (All (Awake p z)) (sym (woken-app p l m)) (All-app (All-map c.stays b.woken) c.woken);
        stays = λ v k. c.stays v (b.stays v k);
        only = λ v k. subst (λ t. Awake p x v ⊎ Memᴰ v t) (sym (woken-app p l m))
            (⊎_elim (λ q. ⊎_elim inl (λ r. inr (Memᴰ.append_left (woken_in p m) r)) (b.only v q)) (λ r. inr (Memᴰ.append_right (woken_in p l) r)) (c.only v k));
      }

  took-wakes : (s : State) (kind number : ℕ) (s' : State) → Sound p s → Sound p s' → FieldStep p s kind number s' → Wakes p s (record { kind = kind; number = number; at = s } ∷ []) s'
  unfolding woken_in wakes_one
  took-wakes s _ _ s' i j (wake-step {v} h) =
      let r = woke-responds p a s s' i v h in
      record { sound = j; woken = All-one r.now; stays = awake-stays p a s s' i v r; only = λ u k. by-eq u v (λ e. inr (Memᴰ.head e)) (λ n. inl (awake-before p a s s' i v r u n k)) }
  took-wakes s _ _ s' i j (hand-step h) =
      let same : (v : ℕ) → node_at s' v ≡ node_at s v = λ v. ap (λ t. node_at t v) h.is in
      record {
        sound = j;
        woken = nil;
        stays = λ v k. awake-as (same v) k;
        only = λ v k. inl (awake-as (sym (same v)) k);
      }
  took-wakes s _ _ s' i j (serve-step {v} h) =
      let r = served-responds p a s s' i v h in
      let t : Taken = record { kind = SERVE; number = v; at = s } in
      record {
        sound = j;
        woken = by-test (wakes_one p t) (λ b. All (Awake p s') (cond b (v ∷ []) [])) (All-one r.now) nil;
        stays = awake-stays p a s s' i v r;
        only = λ u k. by-eq u v
            (λ e. by-eq (node_at s v).status ASLEEP
            (λ q. inr (rw (serve-wakes p s s' v h q) (Memᴰ.head e)))
            (λ n. inl (subst (Awake p s) (sym e) (record { within = h.within; awake = n }))))
            (λ n. inl (awake-before p a s s' i v r u n k));
      }

  pub step-wakes : (kind number : ℕ) (s : State) → Sound p s → Wakes p s (if_taken p kind number s) (step p kind number s).state
  unfolding if_taken
  step-wakes kind number s i = go (step-outcome p s kind number) (step_keeps p a s i kind number)
    where
      go : {r : After State} → StepOutcome s (FieldStep p s kind number) r → Sound p r.state → Wakes p s (cond (eqb r.refusal 0) (record { kind = kind; number = number; at = s } ∷ []) []) r.state
      go (took {s'} h) j = took-wakes s kind number s' i j h
      go (kept r h) j = rw (eqb-diff r 0 (refusal-not-0 r h)) (wakes-none s i)

  -- the same for every list of calls
  pub list-wakes : (cs : List Call) (h : Held) → Live h → h.field.plan ≡ p → Wakes p (state_of h) (trail cs h) (state_of (after cs h))
  list-wakes cs h i e = list_tells p (λ x l y. Sound p x → Wakes p x l y) wakes-none wakes-more step-wakes cs h i e (subst (λ q. Sound q (state_of h)) e (live-sound h i))

pub all-member : {P : ℕ → Type 0} {l : List ℕ} {v : ℕ} → All P l → Memᴰ v l → P v
all-member nil m = absurd (Memᴰ.not-nil m)
all-member {P} (con h t) (Memᴰ.head e) = subst P (sym e) h
all-member (con h t) (Memᴰ.tail m) = all-member t m

-- THE LAW: after a list of calls from a setup the modules that are awake are exactly those that were woken in it
pub exactly-woken : (p : Plan) (lent : List ℕ) → (set_up p lent).refusal ≡ 0 → (cs : List Call) (v : ℕ)
    → Awake (trimmed p) (state_of (after cs (set_up p lent).state)) v ↔ Memᴰ v (woken_in (trimmed p) (trail cs (set_up p lent).state))
exactly-woken p lent z cs v =
    let q = trimmed p in
    let s = started p lent z in
    let a = accepted q s.plan in
    subst (λ h. Awake q (state_of (after cs h)) v ↔ Memᴰ v (woken_in q (trail cs h))) (sym s.is)
    (let w = list-wakes q a cs _ (begun-live q lent s.plan s.room) refl in (
      λ k. ⊎_elim (λ q. absurd (q.awake (ap (λ (n : Node). n.status) (fresh-node v (omega (arith, k.within, a.modules_ok)))))) (λ m. m) (w.only v k),
      all-member w.woken,
    ))

-- so whoever was not woken is asleep
pub others-asleep : (p : Plan) (lent : List ℕ) → (set_up p lent).refusal ≡ 0 → (cs : List Call) (v : ℕ) → v < modules_of (trimmed p)
    → ¬ Memᴰ v (woken_in (trimmed p) (trail cs (set_up p lent).state)) → (node_at (state_of (after cs (set_up p lent).state)) v).status ≡ ASLEEP
others-asleep p lent z cs v l n = by-eq (node_at (state_of (after cs (set_up p lent).state)) v).status ASLEEP (λ e. e)
    (λ m. absurd (n ((exactly-woken p lent z cs v).0 (record { within = l; awake = m }))))
