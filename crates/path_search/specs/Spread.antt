-- The arrays of the search for paths to a node v: the branches (tree links) listed, for each node of v's part its hops to v and the first link of its path,
-- level by level.
use Rattle.std.specs.Prelude.{ℕ, suc, ◌+◌, ◌≤◌, ◌<◌, ◌≡◌, ◌≢◌, Bool, true, false, not, cond, ◌&&◌, List, [], ◌∷◌, length, get_or, set, eqb, leb}
use Rattle.base.specs.None.{none}
use Rattle.base.specs.Limits.{max_modules, max_links}
use Rattle.graph.specs.Parts.{SamePart, together}
use Rattle.plan.specs.Links.{graph_of, Plan, modules_of, links_of}
use Rattle.plan_tree.specs.Tree.{tree_link}
use Rattle.path.specs.Between.{tree_path}

-- hops not known
abbrev pub far : ℕ
far = 255

-- how many hops w is from v, and the link to go first, none at v itself
abbrev pub hops_to : Plan → ℕ → ℕ → ℕ
hops_to p v w = length (tree_path p w v)

abbrev pub head_or : ℕ → List ℕ → ℕ
head_or x [] = x
head_or x (k ∷ l) = k

abbrev pub link_to : Plan → ℕ → ℕ → ℕ
link_to p v w = head_or none (tree_path p w v)

-- BRANCHES

-- k stands at one of the first n places
pub record InList (list : List ℕ) (n k : ℕ) : Type 0 where
  pub place : ℕ
  pub below : place < n
  pub holds : get_or list place 0 ≡ k

-- the first n places hold the tree links and nothing else
pub record Branches (p : Plan) (list : List ℕ) (n : ℕ) : Type 0 where
  pub size : length list ≡ max_links
  pub few : n ≤ max_links
  pub tree : (i : ℕ) → i < n → (get_or list i 0 < links_of p) × (tree_link p (get_or list i 0) ≡ true)
  pub all : (k : ℕ) → k < links_of p → tree_link p k ≡ true → InList list n k

-- the same of the first m links of a tree in bytes
pub record ListsTree (tree : List ℕ) (m : ℕ) (list : List ℕ) (n : ℕ) : Type 0 where
  pub size : length list ≡ max_links
  pub few : n ≤ m
  pub marked : (i : ℕ) → i < n → (get_or list i 0 < m) × (get_or tree (get_or list i 0) 0 ≡ 1)
  pub all : (k : ℕ) → k < m → get_or tree k 0 ≡ 1 → InList list n k

-- LEVELS

-- both arrays have an entry for each node
pub record BothSized (hops by : List ℕ) : Type 0 where
  pub hops_size : length hops ≡ max_modules
  pub by_size : length by ≡ max_modules

-- w is in v's part, within h hops
pub record WithinHops (p : Plan) (v h w : ℕ) : Type 0 where
  pub part : SamePart (graph_of p) w v
  pub near : hops_to p v w ≤ h

-- w is further than h hops, or in another part
abbrev pub BeyondHops : Plan → ℕ → ℕ → ℕ → Type 0
BeyondHops p v h w = SamePart (graph_of p) w v → h < hops_to p v w

-- w's entries when all nodes within h hops are known
pub data Entry (p : Plan) (v h w hop link : ℕ) : Type 0 where
  known : WithinHops p v h w → hop ≡ hops_to p v w → link ≡ link_to p v w → Entry p v h w hop link
  unknown : BeyondHops p v h w → hop ≡ far → Entry p v h w hop link

pub record Level (p : Plan) (v h : ℕ) (hops by : List ℕ) : Type 0 where
  pub sized : BothSized hops by
  pub each : (w : ℕ) → w < modules_of p → Entry p v h w (get_or hops w 0) (get_or by w 0)

-- the same on the way to the next level, when the first i branches are done
pub data Passing (p : Plan) (v : ℕ) (list : List ℕ) (h i w hop link : ℕ) : Type 0 where
  known : WithinHops p v (suc h) w → hop ≡ hops_to p v w → link ≡ link_to p v w → Passing p v list h i w hop link
  unknown : BeyondHops p v h w → (SamePart (graph_of p) w v → hops_to p v w ≡ suc h → (j : ℕ) → j < i → get_or list j 0 ≢ link_to p v w) → hop ≡ far
      → Passing p v list h i w hop link

pub record Pass (p : Plan) (v : ℕ) (list : List ℕ) (h i : ℕ) (hops by : List ℕ) : Type 0 where
  pub sized : BothSized hops by
  pub each : (w : ℕ) → w < modules_of p → Passing p v list h i w (get_or hops w 0) (get_or by w 0)

-- b becomes known by a
abbrev pub reaches : List ℕ → ℕ → ℕ → ℕ → Bool
reaches hops a b h = eqb (get_or hops a 0) h && eqb (get_or hops b 0) far

-- and over link k, if it does
abbrev pub Reached : List ℕ → List ℕ → ℕ → ℕ → ℕ → ℕ → List ℕ → List ℕ → Bool → Type 0
Reached hops by a b k h hops' by' r = (r ≡ reaches hops a b h) × (hops' ≡ cond r (set hops b (h + 1)) hops) × (by' ≡ cond r (set by b k) by)

-- branch k is done, for any goal: if it is the next one of a list, one more is
pub record BranchDone (p : Plan) (k h : ℕ) (hops by hops' by' : List ℕ) (any : Bool) : Type 0 where
  pub done : (v : ℕ) (list : List ℕ) (i : ℕ) → get_or list i 0 ≡ k → Pass p v list h i hops by → Pass p v list h (suc i) hops' by'
  pub none-new : any ≡ false → hops' ≡ hops
  pub sized : BothSized hops' by'

-- one level more, for any goal; no node is there if none became known
pub record LevelDone (p : Plan) (h : ℕ) (hops by hops' by' : List ℕ) (any : Bool) : Type 0 where
  pub next : (v : ℕ) → Level p v h hops by → Level p v (suc h) hops' by'
  pub last : any ≡ false → (v : ℕ) → Level p v h hops by → (w : ℕ) → w < modules_of p → SamePart (graph_of p) w v → hops_to p v w ≢ suc h
  pub sized : BothSized hops' by'

-- WHAT IS FOUND

-- the link to go first, of all in v's part that are no further from v than u
pub record LinksTo (p : Plan) (v u : ℕ) (by : List ℕ) : Type 0 where
  pub size : length by ≡ max_modules
  pub each : (w : ℕ) → w < modules_of p → SamePart (graph_of p) w v → hops_to p v w ≤ hops_to p v u → get_or by w 0 ≡ link_to p v w

-- of u in v's part its own hops, and the links to go from there; else nothing is known of it
pub record KnownTo (p : Plan) (v u : ℕ) (hops by : List ℕ) : Type 0 where
  pub own : SamePart (graph_of p) u v → get_or hops u 0 ≡ hops_to p v u
  pub links : SamePart (graph_of p) u v → LinksTo p v u by
  pub apart : ¬ SamePart (graph_of p) u v → get_or hops u 0 ≡ far

-- just those of v's part within h hops are known
pub record KnownWithin (p : Plan) (v h : ℕ) (hops : List ℕ) : Type 0 where
  pub size : length hops ≡ max_modules
  pub each : (w : ℕ) → w < modules_of p → not (eqb (get_or hops w 0) far) ≡ (together (graph_of p) w v && leb (hops_to p v w) h)
