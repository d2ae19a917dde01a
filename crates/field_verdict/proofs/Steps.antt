-- The two steps, outcome by outcome, as the code meets them: `wake-41`, `wake-43`, `waking`; `serve-41`, `serve-45`, `serving`, `serving-listed`.
use Prim.Native.Nat.{ℕ, ◌*◌, ◌≤◌, ◌<◌}
use native.Mathlib.Omega.{arith}
use mathlib.Core.Path.{◌≡◌, refl, sym, ap, subst, ◌∙◌}
use mathlib.Core.Logic.{◌≢◌, ◌⊎◌, inl, inr, ⊎_elim}
use mathlib.Core.Bool.{true, and-eq-true_iff}
use mathlib.Core.List.{List, []}
use lib.ListN.{length, get_or}
use lib.Dec.{eqb, ltb, leb}
use borrow.Author.Tests.{le-leb, lt-leb, eq-eqb, ne_eqb}
use Rattle.base.proofs.laws.Cond.{bool_cases}
use Rattle.base.specs.Loop.{refused_by}
use Rattle.base.specs.Keep.{place}
use Rattle.base.proofs.laws.Keep.{FirstThat, first_passes, first_out, place-first}
use Rattle.base.proofs.laws.Pool.{All-here}
use Rattle.base.specs.None.{none}
use Rattle.format_message.specs.Header.{level_at}
use Rattle.format_message.specs.Listed.{bare, listed_as, listed}
use Rattle.format_message.proofs.laws.Means.{Means, means}
use Rattle.format_word.specs.Word.{header_in, carried_in, link_in, laid_out, shaped}
use Rattle.plan.specs.Links.{Plan, modules_of, links_of}
use Rattle.plan.proofs.laws.Accepted.{Accepted}
use Rattle.node.specs.declared.Node.{Node}
use Rattle.node.specs.Work.{Own, Work, Send, BACK, ASLEEP, TAKEN, earliest, any_edge}
use Rattle.node.specs.Rules.{wake_on, wakes}
use Rattle.node_response.specs.declared.Response.{Response}
use Rattle.node_response.specs.Response.{answer_of, work_of}
use Rattle.node_joining.specs.Copies.{copies_in}
use Rattle.node_dispatch.specs.Receives.{Receives}
use Rattle.field.specs.Edges.{own_of, link_of, limit_of}
use Rattle.field.specs.State.{State, node_in, node_at, mark_at, msg_in}
use Rattle.field.specs.Step.{in_queue, without, carry_out, back_of, wake_work, wake, serve_work, serve}
use Rattle.field.specs.Valid.{link_or_none, word_fits}
use Rattle.field_calls.specs.Trail.{served_word}
use Rattle.field_laws.proofs.Lists.{WorkOk}
use Rattle.field_laws.proofs.Keeps.{Sound, not_back, wake-ok, served-own, serve-ok}
use Rattle.field_words.proofs.Laid.{without-past}
use Rattle.field_check.specs.Checked.{state_in}
use Rattle.field_verdict.specs.Verdict.{Verdict, work_by, Decided, Feasible}
use Rattle.field_verdict.specs.Judged.{no_word, Responds, Judged}
use Rattle.field_verdict.proofs.Decided.{decided-as}
use Rattle.field_verdict.proofs.Packets.{first-ok, second-ok}

-- ---- the definitions, by their outcomes

module _ (p : Plan) (v : ℕ) (s : State) where
  pub wake-41 : modules_of p ≤ v → wake p v s ≡ refused_by 41 s
  unfolding wake
  wake-41 h = rw (le-leb _ _ h)

  pub serve-41 : modules_of p ≤ v → serve p v s ≡ refused_by 41 s
  unfolding serve
  serve-41 h = rw (le-leb _ _ h)

  module _ (l : v < modules_of p) where
    pub wake-43 : (node_at s v).status ≢ ASLEEP → wake p v s ≡ refused_by 43 s
    unfolding wake
    wake-43 h = rw (lt-leb _ _ l, ne_eqb (node_at s v).status ASLEEP h)

    wake-on : (node_at s v).status ≡ ASLEEP → wake p v s ≡ carry_out p v (wake_work p v s) s s.words []
    unfolding wake
    wake-on h = rw (lt-leb _ _ l, eq-eqb (node_at s v).status ASLEEP h)

    pub serve-45 : length s.words ≤ place (in_queue p v) s.words → serve p v s ≡ refused_by 45 s
    unfolding serve
    serve-45 h = rw (lt-leb _ _ l, le-leb _ _ h)

    serve-on : place (in_queue p v) s.words < length s.words
        → let w = serve_work p v (served_word p v s) s in
        serve p v s ≡ carry_out p v w s (without (place (in_queue p v) s.words) s.words) (back_of w (served_word p v s))
    unfolding serve
    serve-on h = rw (lt-leb _ _ l, lt-leb _ _ h)

-- a wakeup is taken
wake-taken : (o : Own) (n : Node) (m : ℕ → ℕ) → (wakes o n m).answer ≡ TAKEN
unfolding wake_on
wake-taken o n m = bool_cases (eqb (earliest o any_edge (o.edges)) none) (λ e. rw e refl) (λ e. rw e refl)

-- the word that nobody serves says Change-root
listed-none : listed (header_in no_word) (carried_in no_word) ≡ true
unfolding listed listed_as bare
listed-none = refl

-- what a word that passes 31 says
word-listed : (p : Plan) (x : ℕ) → word_fits p x ≡ true → listed (header_in x) (carried_in x) ≡ true
unfolding word_fits
word-listed p x e =
    let a = (and-eq-true_iff _ (leb (level_at (header_in x)) (limit_of p))).0 e in
    let b = (and-eq-true_iff _ (ltb (link_in x) (2 * links_of p))).0 a.0 in
    let c = (and-eq-true_iff (laid_out x) (link_or_none p (carried_in x))).0 b.0 in
    ((and-eq-true_iff (shaped x) (listed (header_in x) (carried_in x))).0 c.0).1

-- ---- in a field that passed 31

module _ (p : Plan) (cells marks words : List ℕ) (sent v : ℕ) (ok : Accepted p) (sound : Sound p (state_in cells marks words sent)) (l : v < modules_of p) where
  abbrev before : State
  before = state_in cells marks words sent

  -- a response that stays within the lists can be carried out
  feasible : (i x : ℕ) (a : Response) → Means (header_in x) (carried_in x) (msg_in x) → WorkOk (own_of p v) (limit_of p) (work_by p v x a before)
      → (i < length words) ⊎ (answer_of a.answer ≢ BACK) → Feasible v (length words) i x a
  feasible i x a m w s =
      let cs = copies_in (own_of p v) (link_of (link_in x)) (msg_in x) (mark_at p before v) in
      record {
        node = omega (arith, ok.modules_ok);
        says = m;
        served = s;
        first = first-ok p ok v (mark_at p before v) cs a w.sends;
        second = second-ok p ok v (mark_at p before v) cs a w.sends;
      }

  module _ (o : Node) (eo : o ≡ node_in cells v) (h : o.status ≡ ASLEEP) (a : Response)
      (e : (cs : List Send) → work_of (mark_at p before v) cs a ≡ wakes (own_of p v) o (mark_at p before v)) where
    is-wake : work_by p v no_word a before ≡ wake_work p v before
    is-wake = e _ ∙ ap (λ (y : Node). wakes (own_of p v) y (mark_at p before v)) eo

    answers : answer_of a.answer ≡ TAKEN
    answers = ap (λ (w : Work). w.answer) (e []) ∙ wake-taken (own_of p v) o (mark_at p before v)

    pub waking : {d : Verdict} → Judged p marks sent v (length words) no_word a d → Decided (wake p v before) (wake_work p v before) p v before d
    waking j =
        decided-as
        (ap (λ (back : List ℕ). carry_out p v w before (without (length words) words) back) (not_back w no_word TAKEN answers (λ q. omega arith))
        ∙ ap (λ (ws : List ℕ). carry_out p v w before ws []) (without-past (length words) words (omega arith))
        ∙ ap (λ (y : Work). carry_out p v y before words []) is-wake
        ∙ sym (wake-on p v before l (ap (λ (y : Node). y.status) (sym eo) ∙ h)))
        is-wake
        (j.decides cells words
        (feasible (length words) no_word a (means (header_in no_word) (carried_in no_word) listed-none)
        (subst (WorkOk (own_of p v) (limit_of p)) (sym is-wake) (wake-ok p ok before sound v l)) (inr (λ q. omega (arith, answers)))))
      where
        w : Work
        w = work_by p v no_word a before

  abbrev here : ℕ
  here = place (in_queue p v) words

  module _ (k : here < length words) where
    first : FirstThat (in_queue p v) words (served_word p v before) (without here words)
    first = place-first (in_queue p v) words 0 k

    fits : word_fits p (served_word p v before) ≡ true
    fits = All-here (first_out first) sound.fits.words

    is-listed : listed (header_in (served_word p v before)) (carried_in (served_word p v before)) ≡ true
    is-listed = word-listed p (served_word p v before) fits

    receives : Receives p v (link_of (link_in (served_word p v before))) (msg_in (served_word p v before)) (node_in cells v)
    receives =
        let o = sound.fits.nodes v l in
        record {
          mine = served-own p ok before sound v (served_word p v before) fits (first_passes first);
          message = (means (header_in (served_word p v before)) (carried_in (served_word p v before)) is-listed).fits;
          best = o.best;
          weight = ⊎_elim (λ e. inr e) (λ c. inl (omega (arith, ok.links_ok))) o.weight;
        }

    serves : {a : Response} {d : Verdict} → Responds p v (served_word p v before) cells marks a → Judged p marks sent v here (served_word p v before) a d
        → Decided (serve p v before) (serve_work p v (served_word p v before) before) p v before d
    serves {a} e j =
        let x = served_word p v before in
        let is = e.is words sent in
        decided-as (ap (λ (w : Work). carry_out p v w before (without here words) (back_of w x)) is ∙ sym (serve-on p v before l k)) is
        (j.decides cells words
        (feasible here x a (means (header_in x) (carried_in x) is-listed)
        (subst (WorkOk (own_of p v) (limit_of p)) (sym is) (serve-ok p ok before sound v x l fits (first_passes first))) (inl k)))

  -- the same where the search answered i
  module _ (i : ℕ) (ei : i ≡ here) (k : i < length words) where
    pub serving-listed : listed (header_in (get_or words i 0)) (carried_in (get_or words i 0)) ≡ true
    serving-listed = rw ei (is-listed (omega arith))

    pub serving-receives : Receives p v (link_of (link_in (get_or words i 0))) (msg_in (get_or words i 0)) (node_in cells v)
    serving-receives = rw ei (receives (omega arith))

    pub serving : {a : Response} {d : Verdict} → Responds p v (get_or words i 0) cells marks a → Judged p marks sent v i (get_or words i 0) a d
        → Decided (serve p v before) (serve_work p v (served_word p v before) before) p v before d
    serving e j = serves (omega arith) (rw ei at e) (rw ei at j)
