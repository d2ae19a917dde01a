-- What follows from the claims alone. The way number tells a path from "no way" (`way-path`, `way-none`), and that settles the answer (`no-way-is`), the same
-- from the other end (`no-way-turned`) and whatever the buffer (`no-way-room`); its modules are unmarked (`near_apart`). The buffer is the path, then what was
-- lent (`buffer-is`, `marks_then`); no way between the two modules has only links earlier than the worst, where L is at most none (`none-earlier`); answers for
-- the same modules show the same links, whatever the buffers (`same-links`, `worst-same`), from the other end too (`worst-turned`); the same module twice shows
-- none and needs no room (`none-shown`, `room-none`); one link is a tree link between the two (`one_link`, `neighbours`). A byte of the marks goes by the
-- length of the path that is answered (`near-by-path`): a larger h unmarks nobody (`near-more`), N − 1 branches reach all of the part (`near-all`), none the
-- module alone (`near_none`). With N − 1 numbers there is no 79 (`room-enough`); where it comes the path is longer than the room (`room-short`).
use Rattle.std.specs.Prelude.{ℕ, suc, ◌≤◌, ◌<◌, ◌≡◌, ◌≢◌, true, List, [], ◌∷◌, ◌++◌, length, get_or, take, drop, eqb, leb}
use Rattle.std.proofs.Common.{arith, sym, ap, ap₂, subst, ◌∙◌, ⊎_elim, true≢false, take-append-drop, le-leb, leb-true}
use Rattle.std.proofs.lemmas.Bool.{lt-leb}
use Rattle.base.specs.Cond.{bit}
use Rattle.base.specs.None.{none}
use Rattle.base.specs.Pool.{All, nil, con}
use Rattle.base.specs.Twice.{another}
use Rattle.base.proofs.laws.Cond.{bit-mono, eqb-cases, by-eq}
use Rattle.base.proofs.laws.Pool.{All-here}
use Rattle.base.proofs.laws.Twice.{NoTwice-one}
use Rattle.graph.specs.Graph.{Joins, Way, stop, go, Any}
use Rattle.graph.specs.Order.{Earlier}
use Rattle.graph.specs.Parts.{SamePart}
use Rattle.graph.specs.Path.{edges_of}
use Rattle.graph.specs.Between.{Latest}
use Rattle.graph.proofs.laws.Ways.{wider}
use Rattle.graph.proofs.laws.Parts.{part?}
use Rattle.graph.proofs.laws.Path.{edges-below}
use Rattle.graph.proofs.laws.Latest.{latest-of, latest-same, all-some, edges_some}
use Rattle.plan.specs.Links.{graph_of, Plan, modules_of, links_of}
use Rattle.plan.specs.Weights.{earlier}
use Rattle.plan.proofs.laws.Weights.{order_of}
use Rattle.plan_tree.specs.Tree.{tree_link}
use Rattle.plan_tree.specs.Claim.{TreePath}
use Rattle.path.specs.Between.{PathShown, no_way, path_between}
use Rattle.path.specs.Claims.{shown_links, PathHolds, NoWay, PathClaim, TurnedRound, RoomClaim, NearHolds}

-- THE PATH

-- a tree link from u to v
pub record JoinedBy (p : Plan) (u v : ℕ) : Type 0 where
  pub link : ℕ
  pub joins : Joins (graph_of p) link u v
  pub tree : tree_link p link ≡ true

module _ {p : Plan} {u v : ℕ} {lent : List ℕ} {r : PathShown} (h : PathHolds p u v lent r) where
  -- no way between them has earlier links alone
  pub none-earlier : links_of p ≤ none → u ≢ v → (w : Way (graph_of p) Any u v) → ¬ All (Earlier (earlier p) r.answer.worst) (edges_of w)
  none-earlier few d w all =
      let top = latest-of (order_of p) (edges_of w) (edges_some d w) (all-some (order_of p) few (edges-below w)) in
      true≢false (sym (All-here top.among all) ∙ h.best d w _ top)

  -- the whole buffer: the path, then what was lent
  pub buffer-is : r.buffer ≡ edges_of h.path.way ++ drop r.answer.length lent
  buffer-is = sym (take-append-drop r.answer.length r.buffer) ∙ ap₂ (λ a b. a ++ b) h.shows h.rest

  -- the same module: nothing is shown
  pub none-shown : u ≡ v → shown_links r ≡ []
  none-shown e = ap (λ n. take n r.buffer) (h.same e).0

  -- what is told from the other end is the latest here
  pub worst-turned : {s : PathShown} → TurnedRound r s → u ≢ v → Latest (earlier p) (edges_of h.path.way) s.answer.worst
  worst-turned t d = subst (Latest (earlier p) (edges_of h.path.way)) (sym t.worst) (h.worst d)

  -- one link: it joins the two modules
  pub one_link : r.answer.length ≡ 1 → JoinedBy p u v
  one_link e = only_one h.path.way (sym h.many ∙ e)
    where
      only_one : {a b : ℕ} (w : Way (graph_of p) (λ k. tree_link p k ≡ true) a b) → length (edges_of w) ≡ 1 → JoinedBy p a b
      only_one stop q = absurd (omega arith)
      only_one (go k j t stop) q = record { link = k; joins = j; tree = t }
      only_one (go k j t (go i x y w)) q = absurd (omega arith)

  -- and where a tree link joins them, it is the path
  pub neighbours : u ≢ v → (b : JoinedBy p u v) → shown_links r ≡ b.link ∷ []
  neighbours d b = h.shows ∙ sym (h.only (record { way = go b.link b.joins b.tree stop; simple = another (con d nil) (NoTwice-one v) }))

  module _ {lent' : List ℕ} {r' : PathShown} (h' : PathHolds p u v lent' r') where
    pub same-links : shown_links r' ≡ shown_links r
    same-links = h'.shows ∙ h.only h'.path ∙ sym h.shows

    pub worst-same : r'.answer.worst ≡ r.answer.worst
    worst-same = by-eq u v
        (λ e. (h'.same e).1 ∙ sym (h.same e).1)
        (λ d. latest-same (order_of p) (edges-below h'.path.way) (λ P a. subst (All P) same a) (λ P a. subst (All P) (sym same) a) (h'.worst d) (h.worst d))
      where
        same : edges_of h'.path.way ≡ edges_of h.path.way
        same = h.only h'.path

-- NO WAY

module _ (claim : PathClaim) (p : Plan) (u v : ℕ) (lent : List ℕ) (e : (path_between p u v lent).answer.refusal ≡ 0) where
  pub way-path : (path_between p u v lent).answer.way ≡ 1 → PathHolds p u v lent (path_between p u v lent)
  way-path w = ⊎_elim (λ h. h) (λ h. absurd (omega (arith, h.found, w))) (claim p u v lent e)

  pub way-none : (path_between p u v lent).answer.way ≡ 0 → NoWay p u v lent (path_between p u v lent)
  way-none w = ⊎_elim (λ h. absurd (omega (arith, h.found, w))) (λ h. h) (claim p u v lent e)

module _ {p : Plan} {u v : ℕ} {lent : List ℕ} {r : PathShown} (h : NoWay p u v lent r) where
  pub no-way-is : r.answer.refusal ≡ 0 → r ≡ no_way lent
  no-way-is z = same z h.found h.empty.0 h.empty.1 h.keeps
    where
      same : {a b c d : ℕ} {l : List ℕ} → a ≡ 0 → b ≡ 0 → c ≡ 0 → d ≡ none → l ≡ lent
          → ◌≡◌ {A = PathShown} (record { answer = record { refusal = a; way = b; length = c; worst = d }; buffer = l }) (no_way lent)
      same a b c d l = rw (a, b, c, d, l)

  -- from the other end no way too
  pub no-way-turned : {s : PathShown} → TurnedRound r s → s.answer.way ≡ 0
  no-way-turned t = t.found ∙ h.found

-- ROOM

pub room-enough : RoomClaim → (p : Plan) (u v : ℕ) (lent : List ℕ) → modules_of p ≤ suc (length lent) → (path_between p u v lent).answer.refusal ≢ 79
room-enough claim p u v lent l e = omega (arith, (claim p u v lent e).most)

-- 79: there is a path, and it is longer than the room
pub record LongerPath (p : Plan) (room u v : ℕ) : Type 0 where
  pub path : TreePath p u v
  pub longer : room < length (edges_of path.way)

pub room-short : RoomClaim → (p : Plan) (u v : ℕ) (lent : List ℕ) → (path_between p u v lent).answer.refusal ≡ 79 → LongerPath p (length lent) u v
room-short claim p u v lent e = let t = claim p u v lent e in record { path = t.there; longer = t.path t.there }

-- the same module twice needs no room
pub room-none : RoomClaim → (p : Plan) (u : ℕ) (lent : List ℕ) → (path_between p u u lent).answer.refusal ≢ 79
room-none claim p u lent e = omega (arith, (claim p u u lent e).path (record { way = stop; simple = NoTwice-one u }))

-- between parts none is short
pub no-way-room : RoomClaim → (p : Plan) (u v : ℕ) (lent : List ℕ) → ¬ SamePart (graph_of p) u v → (path_between p u v lent).answer.refusal ≢ 79
no-way-room claim p u v lent n e = n (wider (λ k l t. tt) (claim p u v lent e).there.way)

-- THE MARKS

pub marks_then : {p : Plan} {m h : ℕ} {lent bytes : List ℕ} → NearHolds p m h lent bytes → bytes ≡ take (modules_of p) bytes ++ drop (modules_of p) lent
marks_then {p} {bytes} near = sym (take-append-drop (modules_of p) bytes) ∙ ap (λ l. take (modules_of p) bytes ++ l) near.rest

module _ {p : Plan} {m h : ℕ} {lent bytes : List ℕ} (near : NearHolds p m h lent bytes) (v : ℕ) (l : v < modules_of p) where
  pub near-by-path : {lent' : List ℕ} {r : PathShown} → PathHolds p m v lent' r → get_or bytes v 0 ≡ bit (leb r.answer.length h)
  near-by-path a = near.marks v l a.path ∙ ap (λ n. bit (leb n h)) (sym a.many)

  pub near-all : {lent' : List ℕ} {r : PathShown} → PathHolds p m v lent' r → modules_of p ≤ suc h → get_or bytes v 0 ≡ 1
  near-all {r} a most = near-by-path a ∙ ap bit (le-leb r.answer.length h (omega (arith, a.few)))

  pub near-more : {h' : ℕ} {lent' bytes' : List ℕ} → NearHolds p m h' lent' bytes' → h ≤ h' → get_or bytes v 0 ≤ get_or bytes' v 0
  near-more {h'} more le =
      ⊎_elim
      (λ s. let q : TreePath p m v = near.paths v l s in
      let n : ℕ = length (edges_of q.way) in
      omega (arith, near.marks v l q, more.marks v l q, bit-mono (leb n h) (leb n h') (λ t. le-leb n h' (omega (arith, leb-true n h t)))))
      (λ d. omega (arith, near.apart v l d))
      (part? (graph_of p) m v)

  pub near_apart : {lent' : List ℕ} {r : PathShown} → NoWay p m v lent' r → get_or bytes v 0 ≡ 0
  near_apart a = near.apart v l a.apart

pub near_none : {p : Plan} {m : ℕ} {lent bytes : List ℕ} → NearHolds p m 0 lent bytes → (v : ℕ) → v < modules_of p → get_or bytes v 0 ≡ bit (eqb m v)
near_none {p} {m} {bytes} near v l = eqb-cases m v (λ b. get_or bytes v 0 ≡ bit b)
    (λ e. itself e (near.marks v l))
    (λ d. ⊎_elim
    (λ s. let q = near.paths v l s in near.marks v l q ∙ ap bit (lt-leb (length (edges_of q.way)) 0 (edges_some d q.way)))
    (λ n. near.apart v l n)
    (part? (graph_of p) m v))
  where
    itself : {w byte : ℕ} → m ≡ w → ((q : TreePath p m w) → byte ≡ bit (leb (length (edges_of q.way)) 0)) → byte ≡ 1
    itself {byte} e = subst (λ w. ((q : TreePath p m w) → byte ≡ bit (leb (length (edges_of q.way)) 0)) → byte ≡ 1) e (λ f. f (record { way = stop; simple = NoTwice-one m }))
