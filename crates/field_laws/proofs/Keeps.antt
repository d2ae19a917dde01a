-- A step that is taken keeps the field valid in the sense of 31, from any valid field; one that is refused leaves it (`step_keeps`, `step-lengths`). So a
-- run checks 31 once.
use Rattle.std.specs.Prelude.{ℕ, suc, ◌+◌, ◌*◌, ◌≤◌, ◌<◌, ◌≡◌, refl, ◌≢◌, true, cond, ◌&&◌, List, [], ◌∷◌, ◌++◌, get_or, eqb, ltb}
use Rattle.std.proofs.Common.{arith, sym, ap, subst, ◌∙◌, inl, length-append, eq-eqb, ne_eqb}
use Rattle.std.proofs.Math.ListN.{length}
use Rattle.base.specs.None.{none}
use Rattle.base.proofs.laws.Cond.{bool_cases, by-eq}
use Rattle.base.specs.Loop.{After}
use Rattle.base.proofs.laws.Loop.{by-test}
use Rattle.base.specs.Pool.{All, nil, Out, here, there}
use Rattle.base.proofs.laws.Pool.{All-app, All-one, All-here, All-rest}
use Rattle.base.proofs.laws.Keep.{first_out, first_passes}
use Rattle.format_word.specs.Word.{link_in, hand_over}
use Rattle.node.specs.Work.{Work, REJECTED, BACK}
use Rattle.field.specs.Edges.{is_own, own_of, link_of, from, limit_of, ceiling_of, end_of}
use Rattle.field.specs.State.{State, WIDTH, node_at, mark_at, placed, posted}
use Rattle.field.specs.Step.{in_queue, wake_work, serve_work, back_of, step}
use Rattle.field.specs.Valid.{word_fits}
use Rattle.plan.proofs.laws.Accepted.{Accepted}
use Rattle.plan.specs.Links.{Plan, modules_of, links_of}
use Rattle.field.proofs.laws.Edges.{mark-own, mark-not}
use Rattle.field_laws.proofs.Chan.{queue-parts}
use Rattle.field_laws.proofs.Sends.{length-posted}
use Rattle.field_laws.proofs.Cases.{StepOutcome, took, kept, FieldStep, wake-step, hand-step, serve-step, step-outcome}
use Rattle.field_laws.proofs.Places.{length-put, node-same, node-other, put_marks-at, length-new, over_below, dest-own, own-link-below}
use Rattle.field_laws.proofs.Lists.{NodeOk, WorkOk, ok-wakeup, ok-respond}
use Rattle.field_laws.proofs.Fits.{FieldFits, word-link, word-msg, hand-fits, sends-fit}

-- room for N modules and the marks of L links: so in a field, whose arrays hold 192 and 600
pub record Sized (p : Plan) (s : State) : Type 0 where
  pub cells : modules_of p * WIDTH ≤ length s.cells
  pub marks : 2 * links_of p ≤ length s.marks

pub record Sound (p : Plan) (s : State) : Type 0 where
  pub sized : Sized p s
  pub fits : FieldFits p s

pub out-length : {A : Type 0} {l r : List A} {x : A} → Out l x r → length l ≡ suc (length r)
out-length here = refl
out-length (there o) = ap suc (out-length o)

-- the served word is put back, or it is not
module _ (w : Work) (x a : ℕ) (e : w.answer ≡ a) where
  pub not_back : a ≢ BACK → back_of w x ≡ []
  unfolding back_of
  not_back n = rw (ne_eqb w.answer BACK (λ q. n (sym e ∙ q)))

  pub is-back : a ≡ BACK → x ∷ [] ≡ back_of w x
  unfolding back_of
  is-back h = rw (eq-eqb w.answer BACK (e ∙ h))

-- what holds of a word holds of what is put back of it
pub back-all : {P : ℕ → Type 0} (w : Work) (x : ℕ) → P x → All P (back_of w x)
unfolding back_of
back-all {P} w x h = by-test (eqb w.answer BACK) (λ b. All P (cond b (x ∷ []) [])) (All-one h) nil

module _ (p : Plan) (a : Accepted p) (s : State) (i : Sound p s) where
  -- what a response starts from
  start-ok : (v : ℕ) → v < modules_of p → (k : ℕ) → mark_at p s v k ≤ REJECTED
  start-ok v l k = bool_cases (is_own p v k)
      (λ o. rw (mark-own p v k s.marks o) (i.fits.marks (end_of p v k) (over_below p v k o)))
      (λ o. rw (mark-not p v k s.marks o) (omega arith))

  pub wake-ok : (v : ℕ) → v < modules_of p → WorkOk (own_of p v) (limit_of p) (wake_work p v s)
  wake-ok v l = ok-wakeup (own_of p v) (limit_of p) none _ (inl refl) (record { node = i.fits.nodes v l; marks = start-ok v l; sends = nil })

  -- the link of a word in v's queue is v's own
  pub served-own : (v x : ℕ) → word_fits p x ≡ true → in_queue p v x ≡ true → is_own p v (link_of (link_in x)) ≡ true
  served-own v x f q = subst (λ u. is_own p u (link_of (link_in x)) ≡ true) (queue-parts p v x q).1 (dest-own p a (link_in x) (word-link p x f))

  pub serve-ok : (v x : ℕ) → v < modules_of p → word_fits p x ≡ true → in_queue p v x ≡ true → WorkOk (own_of p v) (limit_of p) (serve_work p v x s)
  serve-ok v x l f q =
      let o = served-own v x f q in
      ok-respond (own_of p v) (limit_of p) (link_of (link_in x)) o (own-link-below p v (link_of (link_in x)) o) (omega (arith, a.links_ok)) _ _ (word-msg p v x f)
      (record { node = i.fits.nodes v l; marks = start-ok v l; sends = nil })

  -- a response is placed
  module _ (v : ℕ) (l : v < modules_of p) (w : Work) (ok : WorkOk (own_of p v) (limit_of p) w) (words back : List ℕ)
      (fw : All (λ x. word_fits p x ≡ true) words) (fb : All (λ x. word_fits p x ≡ true) back) (few : length words + length back ≤ s.sent)
      (room : s.sent + length w.sends ≤ ceiling_of p) where
    mark-fits : (d : ℕ) → d < 2 * links_of p → get_or (placed p v w s words back).marks d 0 ≤ REJECTED
    mark-fits d h = rw (put_marks-at p v w.mark s.marks d (omega (arith, i.sized.marks)))
        (by-test (ltb d (2 * links_of p) && eqb (from p d) v) (λ b. cond b (w.mark (link_of d)) (get_or s.marks d 0) ≤ REJECTED) (ok.marks (link_of d)) (i.fits.marks d h))

    node-fits : (u : ℕ) → u < modules_of p → NodeOk (own_of p u) (limit_of p) (node_at (placed p v w s words back) u)
    node-fits u h = by-eq u v
        (λ e. subst (λ x. NodeOk (own_of p x) (limit_of p) (node_at (placed p v w s words back) x)) (sym e)
        (subst (λ n. NodeOk (own_of p v) (limit_of p) n) (sym (node-same s.cells v w.node (omega (arith, i.sized.cells)))) ok.node))
        (λ n. subst (λ x. NodeOk (own_of p u) (limit_of p) x) (sym (node-other s.cells v w.node u n)) (i.fits.nodes u h))

    pub placed-sound : Sound p (placed p v w s words back)
    placed-sound = record {
      sized = record {
        cells = omega (arith, i.sized.cells, length-put s.cells v w.node);
        marks = omega (arith, i.sized.marks, length-new p v w.mark 0 s.marks);
      };
      fits = record {
        words = All-app (All-app fw (sends-fit p a v ok.sends)) fb;
        nodes = node-fits;
        marks = mark-fits;
        waiting = omega (arith, length-append (words ++ posted p v w.sends) back, length-append words (posted p v w.sends), length-posted p v w.sends);
        ceiling = room;
      };
    }

  back-short : (w : Work) (x : ℕ) → length (back_of w x) ≤ 1
  unfolding back_of
  back-short w x = by-test (eqb w.answer BACK) (λ b. length (cond b (x ∷ []) []) ≤ 1) (omega arith) (omega arith)

  -- each kind of step
  pub step-sound : (kind number : ℕ) (s' : State) → FieldStep p s kind number s' → Sound p s'
  step-sound _ _ s' (wake-step {v} h) = subst (Sound p) (sym h.responds.is)
      (placed-sound v h.within (wake_work p v s) (wake-ok v h.within) s.words [] i.fits.words nil (omega (arith, i.fits.waiting)) h.responds.room)
  step-sound _ _ s' (hand-step h) =
      let o = first_out h.first in
      subst (Sound p) (sym h.is)
      (record {
        sized = record { cells = i.sized.cells; marks = i.sized.marks };
        fits = record {
          words = All-app (All-rest o i.fits.words) (All-one (hand-fits p h.word (All-here o i.fits.words)));
          nodes = i.fits.nodes;
          marks = i.fits.marks;
          waiting = omega (arith, length-append h.rest (hand_over h.word ∷ []), out-length o, i.fits.waiting);
          ceiling = i.fits.ceiling;
        };
      })
  step-sound _ _ s' (serve-step {v} h) =
      let o = first_out h.first in
      let x = h.word in
      let f = All-here o i.fits.words in
      let w = serve_work p v x s in
      subst (Sound p) (sym h.responds.is)
      (placed-sound v h.within w (serve-ok v x h.within f (first_passes h.first)) h.rest (back_of w x) (All-rest o i.fits.words) (back-all w x f)
      (omega (arith, out-length o, back-short w x, i.fits.waiting)) h.responds.room)

  kept-sound : {Took : State → Type 0} {r : After State} → ((s' : State) → Took s' → Sound p s') → StepOutcome s Took r → Sound p r.state
  kept-sound f (took {s'} t) = f s' t
  kept-sound f (kept r h) = i

  -- THE LAW: taken or refused, a step leaves a valid field valid
  pub step_keeps : (kind number : ℕ) → Sound p (step p kind number s).state
  step_keeps kind number = kept-sound (step-sound kind number) (step-outcome p s kind number)

-- the arrays keep their lengths
pub record SameLengths (x y : State) : Type 0 where
  pub cells : length y.cells ≡ length x.cells
  pub marks : length y.marks ≡ length x.marks

module _ (p : Plan) (s : State) where
  placed_alike : (v : ℕ) (w : Work) (words back : List ℕ) → SameLengths s (placed p v w s words back)
  placed_alike v w words back = record { cells = length-put s.cells v w.node; marks = length-new p v w.mark 0 s.marks }

  step-alike : (kind number : ℕ) (s' : State) → FieldStep p s kind number s' → SameLengths s s'
  step-alike _ _ s' (wake-step {v} h) = subst (SameLengths s) (sym h.responds.is) (placed_alike v (wake_work p v s) s.words [])
  step-alike _ _ s' (hand-step h) = subst (SameLengths s) (sym h.is) (record { cells = refl; marks = refl })
  step-alike _ _ s' (serve-step {v} h) = subst (SameLengths s) (sym h.responds.is) (placed_alike v (serve_work p v h.word s) h.rest (back_of (serve_work p v h.word s) h.word))

  kept-alike : {Took : State → Type 0} {r : After State} → ((s' : State) → Took s' → SameLengths s s') → StepOutcome s Took r → SameLengths s r.state
  kept-alike f (took {s'} t) = f s' t
  kept-alike f (kept r h) = record { cells = refl; marks = refl }

  pub step-lengths : (kind number : ℕ) → SameLengths s (step p kind number s).state
  step-lengths kind number = kept-alike (step-alike kind number) (step-outcome p s kind number)
