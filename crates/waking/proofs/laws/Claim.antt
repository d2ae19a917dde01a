-- WHO WOKE WHOM (`who-woke-whom`): request 05's claim, from setup and over every list of calls.
use Rattle.std.specs.Prelude.{ℕ, ◌≤◌, ◌≡◌, refl, ◌≢◌, ◌⊎◌, length, replicate}
use Rattle.std.proofs.Common.{arith, sym, ap, subst, ⊎_elim}
use Rattle.std.proofs.Math.Logic.{inl, inr}
use mathlib.Core.List.Memᴰ
use mathlib.Core.List.{List, [], ◌∷◌, ◌++◌, append-nil, append_assoc, Memᴰ}
use borrow.Author.Tests.{eq-eqb, ne_eqb}
use Rattle.base.specs.None.{none}
use Rattle.base.specs.Pool.{All, nil, con}
use Rattle.base.proofs.laws.Cond.{bool_cases, by-eq}
use Rattle.base.specs.Twice.{nobody}
use Rattle.plan.specs.Refusal.{plan_refusal}
use Rattle.plan.proofs.laws.Accepted.{accepted}
use Rattle.plan.specs.Links.{Plan, links_of}
use Rattle.plan.specs.Trimmed.{trimmed}
use Rattle.node.specs.declared.Node.{Node}
use Rattle.node.specs.Work.{ASLEEP}
use Rattle.field.specs.Edges.{ceiling_of}
use Rattle.field.specs.State.{State, node_at}
use Rattle.field.specs.Held.{Held, fresh, state_of}
use Rattle.field_calls.specs.Call.{Call, after}
use Rattle.field_calls.specs.Trail.{Taken, trail, wakes_one, Awake, woken_in}
use Rattle.field_laws.proofs.After.{fresh-node, started, begun-live, list_tells}
use Rattle.field_laws.proofs.Laid.{waiting-zeros, live-sound}
use Rattle.field_roundlaws.proofs.Awake.{all-member}
use Rattle.waking.specs.Claim.{waking_link, waking_in, WakingClaim, WhoWokeWhom}
use Rattle.waking.proofs.laws.Chain.{chain-found}
use Rattle.waking.proofs.laws.Step.{WokenAsTold, WokenBy, step-waking}

-- nobody is awake at a setup that is not refused, and no word waits
module _ (p : Plan) (lent : List ℕ) (a : plan_refusal p ≡ 0) (room : ceiling_of p ≤ length lent) where
  abbrev begun : Held
  begun = record { field = fresh p; words = replicate (length lent) 0 }

  nobody-awake : (v : ℕ) → Awake p (state_of begun) v → ⊥
  nobody-awake v k = k.awake (ap (λ (n : Node). n.status) (fresh-node v (omega (arith, k.within, (accepted p a).modules_ok))))

  begins : WokenBy p [] (state_of begun)
  unfolding woken_in
  begins = record {
    sound = live-sound _ (begun-live p lent a room);
    senders = rw (waiting-zeros (length lent)) nil;
    members = λ v k. absurd (nobody-awake v k);
    awake = nil;
    once = nobody;
    told = nil;
    traced = λ v k. absurd (nobody-awake v k);
  }

  -- every list of calls
  pub list-waking : (calls : List Call) → WokenBy p (trail calls begun) (state_of (after calls begun))
  list-waking calls =
      list_tells p (λ x m y. (l : List Taken) → WokenBy p l x → WokenBy p (l ++ m) y)
      (λ x l b. subst (λ m. WokenBy p m x) (sym (append-nil l)) b)
      (λ x y z m n f g l b. subst (λ k. WokenBy p k z) (append_assoc l m n) (g (l ++ m) (f l b)))
      (λ kind number s l b. step-waking p (accepted p a) kind number s l b)
      calls _ (begun-live p lent a room) refl [] begins

-- the waking link by the steps taken, where a module that they did not wake has none
module _ (p : Plan) (s : State) (v : ℕ) where
  told_in : (l : List Taken) → All (WokenAsTold p s) l → Memᴰ v (woken_in p l) ⊎ ((node_at s v).waking ≡ none) → (node_at s v).waking ≡ waking_in p l v
  unfolding woken_in waking_in
  told_in [] nil (inl i) = absurd (Memᴰ.not-nil i)
  told_in [] nil (inr e) = e
  told_in (t ∷ l) (con h k) c = bool_cases (wakes_one p t)
      (λ yes. by-eq t.number v
      (λ e. rw (yes, eq-eqb _ v e) (subst (λ u. (node_at s u).waking ≡ waking_link p t) e (h yes).1))
      (λ n. rw (yes, ne_eqb _ v n) (told_in l k (⊎_elim (λ i. inl (behind n (rw yes at i))) inr c))))
      (λ not. rw not (told_in l k (⊎_elim (λ i. inl (rw not at i)) inr c)))
    where
      behind : {u : ℕ} {m : List ℕ} → u ≢ v → Memᴰ v (u ∷ m) → Memᴰ v m
      behind n (Memᴰ.head e) = absurd (n (sym e))
      behind n (Memᴰ.tail i) = i

-- THE CLAIM
pub who-woke-whom : WhoWokeWhom
who-woke-whom p lent z calls =
    let q = trimmed p in
    let y = started p lent z in
    let few : links_of q ≤ none = omega (arith, (accepted q y.plan).links_ok) in
    subst (λ h. WakingClaim q h calls) (sym y.is)
    (let b = list-waking q lent y.plan y.room calls in
    let h : Held = record { field = fresh q; words = replicate (length lent) 0 } in
    let s = state_of (after calls h) in
    let l = trail calls h in
    record {
      told = λ v i. told_in q s v l b.told
          (by-eq (node_at s v).status ASLEEP (λ e. inr ((b.sound.fits.nodes v i).unwoken e)) (λ n. inl (b.members v (record { within = i; awake = n }))));
      exactly = λ v. (b.members v, all-member b.awake);
      once = b.once;
      traced = λ v k. chain-found q few s l v (b.traced v k);
    })
