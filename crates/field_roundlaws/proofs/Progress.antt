-- Progress: messages consumed and nodes awake, at most M + N (`progress-le`). A service raises it, or puts back a message that is blocked and changes
-- nothing else (`serve-moves`).
use Rattle.std.specs.Prelude.{ℕ, suc, ◌+◌, ◌-◌, ◌*◌, ◌≤◌, ◌<◌, ◌≡◌, ◌≢◌, ◌⊎◌, not, [], ◌∷◌, ◌++◌, eqb}
use Rattle.std.proofs.Common.{arith, sym, ap₂, subst, ◌∙◌, inl, inr, ⊎_elim, append-nil, length-append, eq-eqb, ne_eqb}
use Rattle.std.proofs.Math.Path.{refl, ap}
use Rattle.std.proofs.Math.ListN.{length}
use Rattle.base.specs.Cond.{bit}
use Rattle.base.proofs.laws.Cond.{eqb-cases, eqb-diff, by-eq}
use Rattle.base.specs.Sum.{sum}
use Rattle.base.proofs.laws.Sum.{sum-le, sum_lt, sum-const}
use Rattle.base.proofs.laws.Keep.{first_out, first_passes}
use Rattle.format_word.specs.Word.{link_in}
use Rattle.plan.proofs.laws.Accepted.{Accepted}
use Rattle.plan.specs.Links.{Plan, modules_of}
use Rattle.node.specs.declared.Node.{Node}
use Rattle.node.specs.Work.{Work, ASLEEP, BACK, start, put_back}
use Rattle.field.specs.Edges.{own_of, link_of, dest, limit_of, ceiling_of}
use Rattle.field.specs.State.{State, WIDTH, node_at, mark_at, msg_in, posted, placed}
use Rattle.field.specs.Step.{serve_work, back_of}
use Rattle.field_laws.proofs.Chan.{queue-parts}
use Rattle.field_laws.proofs.Sends.{length-posted}
use Rattle.field_laws.proofs.Cases.{Served}
use Rattle.field_laws.proofs.Places.{node-same, node-other, node-back, marks-back}
use Rattle.field_laws.proofs.Keeps.{Sound, out-length}
use Rattle.field_roundlaws.proofs.Steady.{Steady, SteadyOr, PutsBack, ends-awake, ends-asleep, stays_up}

-- 1 for a node that is awake
abbrev pub up : State → ℕ → ℕ
up s v = bit (not (eqb (node_at s v).status ASLEEP))

unfoldable pub progress : Plan → State → ℕ
progress p s = (s.sent - length s.words) + sum (modules_of p) (up s)

up_one : (s : State) (v : ℕ) → (node_at s v).status ≢ ASLEEP → up s v ≡ 1
up_one s v n = ap (λ b. bit (not b)) (eqb-diff _ ASLEEP n)

up_le : (s : State) (v : ℕ) → up s v ≤ 1
up_le s v = eqb-cases (node_at s v).status ASLEEP (λ b. bit (not b) ≤ 1) (λ e. omega arith) (λ e. omega arith)

pub awake-le : (p : Plan) (s : State) → sum (modules_of p) (up s) ≤ modules_of p
awake-le p s = omega (arith, sum-le (modules_of p) (up s) (λ v. 1) (λ v l. up_le s v), sum-const (modules_of p) 1)

pub progress-le : (p : Plan) (s : State) → Sound p s → progress p s ≤ ceiling_of p + modules_of p
unfolding progress
progress-le p s i = omega (arith, i.fits.ceiling, awake-le p s)

-- the word would be put back by its node, which is awake
pub record BlockedWord (p : Plan) (s : State) (x : ℕ) : Type 0 where
  pub back : (serve_work p (dest p (link_in x)) x s).answer ≡ BACK
  pub awake : (node_at s (dest p (link_in x))).status ≢ ASLEEP

-- s' is s, but for the order of the words
pub record Still (s s' : State) : Type 0 where
  pub cells : s'.cells ≡ s.cells
  pub marks : s'.marks ≡ s.marks
  pub sent : s'.sent ≡ s.sent

module _ (p : Plan) (a : Accepted p) (s s' : State) (v : ℕ) (i : Sound p s) (h : Served p v s s') where
  abbrev x : ℕ
  x = h.word

  abbrev w : Work
  w = serve_work p v x s

  in-range : v * WIDTH + WIDTH ≤ length s.cells
  in-range = omega (arith, i.sized.cells, h.within)

  pub node-after : node_at s' v ≡ w.node
  node-after = ap (λ t. node_at t v) h.responds.is ∙ node-same s.cells v w.node in-range

  pub other_after : (u : ℕ) → u ≢ v → node_at s' u ≡ node_at s u
  other_after u n = ap (λ t. node_at t u) h.responds.is ∙ node-other s.cells v w.node u n

  -- nothing done yet: not put back
  abbrev fresh : Work
  fresh = start (node_at s v) (mark_at p s v)

  begins : (node_at s v).status ≢ ASLEEP → Steady fresh
  begins n = record { unblocked = λ e. omega arith; awake = n }

  ends : (node_at s v).status ≢ ASLEEP → SteadyOr fresh (PutsBack (link_of (link_in x)) fresh (msg_in x)) w
  ends n = ends-awake (own_of p v) (limit_of p) (link_of (link_in x)) (msg_in x) fresh (begins n)

  -- v is awake afterwards
  awake-after : w.node.status ≢ ASLEEP
  awake-after = by-eq (node_at s v).status ASLEEP
      (λ e. ⊎_elim (λ r. absurd (h.responds.fine r)) (λ r. r) (ends-asleep (own_of p v) (limit_of p) (link_of (link_in x)) (msg_in x) fresh (λ q. omega arith) e))
      (λ n. stays_up fresh w (begins n) (ends n))

  pub awake-now : (node_at s' v).status ≢ ASLEEP
  awake-now e = awake-after (sym (ap (λ (n : Node). n.status) node-after) ∙ e)

  up-v : up s' v ≡ 1
  up-v = up_one s' v awake-now

  up-all : (u : ℕ) → u < modules_of p → up s u ≤ up s' u
  up-all u l = by-eq u v
      (λ e. subst (λ y. up s y ≤ up s' y) (sym e) (omega (arith, up-v, up_le s v)))
      (λ n. omega (arith, ap (λ (m : Node). bit (not (eqb m.status ASLEEP))) (other_after u n)))

  sent-after : s'.sent ≡ s.sent + length w.sends
  sent-after = ap (λ (t : State). t.sent) h.responds.is

  words-after : length s'.words ≡ length h.rest + length w.sends + length (back_of w x)
  words-after = ap (λ (t : State). length t.words) h.responds.is
      ∙ omega (arith, length-append (h.rest ++ posted p v w.sends) (back_of w x), length-append h.rest (posted p v w.sends), length-posted p v w.sends)

  one_less : length s.words ≡ suc (length h.rest)
  one_less = out-length (first_out h.first)

  -- a message was consumed, or a sleeper woke, or a blocked message went to the end
  pub record Moved : Type 0 where
    pub still : Still s s'
    pub words : s'.words ≡ h.rest ++ (h.word ∷ [])
    pub blocked : BlockedWord p s h.word

  back_none : w.answer ≢ BACK → back_of w x ≡ []
  unfolding back_of
  back_none n = rw (ne_eqb w.answer BACK n) refl

  back_one : w.answer ≡ BACK → back_of w x ≡ x ∷ []
  unfolding back_of
  back_one e = rw (eq-eqb w.answer BACK e) refl

  consumed : w.answer ≢ BACK → progress p s < progress p s'
  unfolding progress
  consumed n = omega (arith, sent-after, words-after, one_less, i.fits.waiting, sum-le (modules_of p) (up s) (up s') up-all, ap length (back_none n))

  woke : w.answer ≡ BACK → (node_at s v).status ≡ ASLEEP → progress p s < progress p s'
  unfolding progress
  woke b e =
      let z : up s v ≡ 0 = ap (λ t. bit (not t)) (eq-eqb _ ASLEEP e) in
      omega (arith, sent-after, words-after, one_less, i.fits.waiting, sum_lt (modules_of p) v (up s) (up s') h.within up-all (omega (arith, z, up-v)), ap length (back_one b))

  is-put-back : w.answer ≡ BACK → (node_at s v).status ≢ ASLEEP → w ≡ put_back fresh
  is-put-back b n = ⊎_elim (λ k. absurd (k.unblocked b)) (λ t. t.1) (ends n)

  stays : w.answer ≡ BACK → (node_at s v).status ≢ ASLEEP → Moved
  stays b n =
      let e = is-put-back b n in
      let is = h.responds.is ∙ ap₂ (λ r l. placed p v r s h.rest l) e (back_one b) in
      let d = (queue-parts p v x (first_passes h.first)).1 in
      record {
        still = record {
          cells = ap (λ (t : State). t.cells) is ∙ node-back s.cells v in-range;
          marks = ap (λ (t : State). t.marks) is ∙ marks-back p a v s.marks i.sized.marks;
          sent = ap (λ (t : State). t.sent) is ∙ omega arith;
        };
        words = ap (λ (t : State). t.words) is ∙ ap (λ l. l ++ (x ∷ [])) (append-nil h.rest);
        blocked = record {
          back = subst (λ u. (serve_work p u x s).answer ≡ BACK) (sym d) b;
          awake = subst (λ u. (node_at s u).status ≢ ASLEEP) (sym d) n;
        };
      }

  -- THE LAW
  pub serve-moves : (progress p s < progress p s') ⊎ Moved
  serve-moves = by-eq w.answer BACK (λ b. by-eq (node_at s v).status ASLEEP (λ e. inl (woke b e)) (λ n. inr (stays b n))) (λ n. inl (consumed n))
