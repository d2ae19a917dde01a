-- A field's state as the protocol's tables (`view`): one value of each module, the marks, and the channels of the directed links. Nodes and marks placed
-- (`nodes-put`, `marks-put`, `place-tables`).
use Rattle.std.specs.Prelude.{ℕ, ◌*◌, ◌≤◌, ◌<◌, ◌≡◌, refl, false, List, [], length, ltb}
use Rattle.std.proofs.Common.{arith, sym, ◌∙◌, lt-ltb}
use Rattle.std.proofs.Math.Path.{ap, subst, fun_ext}
use Rattle.std.proofs.Math.Bool.{cond}
use Rattle.base.specs.Cond.{upd}
use Rattle.base.proofs.laws.Cond.{bool_cases, upd-elim, upd_same, upd_other}
use Rattle.format_message.specs.Msg.{Msg}
use Rattle.plan.specs.Links.{Plan, modules_of, links_of}
use Rattle.field.proofs.laws.Edges.{mark-not}
use Rattle.node.specs.declared.Node.{Node}
use Rattle.node.specs.Work.{Work, start, setup}
use Rattle.field.specs.Edges.{is_own, end_of, marks_in}
use Rattle.field.specs.State.{State, WIDTH, node_in, put_node, put_marks}
use Rattle.field_laws.proofs.Chan.{chan}
use Rattle.field_laws.proofs.Places.{node-same, node-other, mark-same, mark-other}
use Rattle.protocol_bridge.proofs.Real.{Real, post, place_in}
use Rattle.protocol_bridge.proofs.Place.{upd-own, post-nil}
use Rattle.protocol_bridge.proofs.Fin.{Shows}

-- the modules: those below N, and as at setup beyond
unfoldable pub nodes : Plan → List ℕ → ℕ → Node
nodes p cells v = cond (ltb v (modules_of p)) (node_in cells v) setup

-- v's channel over its own link k: the messages of v's directed link
unfoldable pub chans : Plan → List ℕ → ℕ → ℕ → List Msg
chans p words v k = cond (is_own p v k) (chan (end_of p v k) words) []

-- tables of modules, marks and channels, one for each value
abbrev pub tables : (ℕ → Node) → (ℕ → ℕ → ℕ) → (ℕ → ℕ → List Msg) → Real
tables f m c =
    record {
      st = λ v. (f v).status;
      lev = λ v. (f v).level;
      id = λ v. (f v).identity;
      bw = λ v. (f v).weight;
      be = λ v. (f v).best;
      te = λ v. (f v).test;
      ib = λ v. (f v).branch;
      fc = λ v. (f v).count;
      halt = λ v. (f v).halted;
      mark = m;
      ch = c;
    }

-- THE VIEW
abbrev pub view : Plan → State → Real
view p s = tables (nodes p s.cells) (marks_in p s.marks) (chans p s.words)

-- ---- tables

pub upd-map : {A B : Type 0} (g : A → B) (f : ℕ → A) (v : ℕ) (a : A) → (λ u. g (upd f v a u)) ≡ upd (λ u. g (f u)) v (g a)
upd-map g f v a = fun_ext (λ u. upd-elim (λ x. g x ≡ upd (λ w. g (f w)) v (g a) u) f v a u
    (λ e. sym (ap (upd (λ w. g (f w)) v (g a)) (sym e) ∙ upd_same (λ w. g (f w)) v (g a)))
    (λ n. sym (upd_other (λ w. g (f w)) v (g a) u n)))

-- a response is placed in each of the three
pub place-tables : (f : ℕ → Node) (m : ℕ → ℕ → ℕ) (c : ℕ → ℕ → List Msg) (v : ℕ) (w : Work)
    → place_in (tables f m c) v w ≡ tables (upd f v w.node) (upd m v w.mark) (post c v w.sends)
place-tables f m c v w = rw (
  upd-map (λ (n : Node). n.status) f v w.node,
  upd-map (λ (n : Node). n.level) f v w.node,
  upd-map (λ (n : Node). n.identity) f v w.node,
  upd-map (λ (n : Node). n.weight) f v w.node,
  upd-map (λ (n : Node). n.best) f v w.node,
  upd-map (λ (n : Node). n.test) f v w.node,
  upd-map (λ (n : Node). n.branch) f v w.node,
  upd-map (λ (n : Node). n.count) f v w.node,
  upd-map (λ (n : Node). n.halted) f v w.node,
)

pub tables-show : (f : ℕ → Node) (m : ℕ → ℕ → ℕ) (c : ℕ → ℕ → List Msg) (v : ℕ) → Shows (tables f m c) v (f v)
tables-show f m c v = record { is = sym (place-tables f m c v (start (f v) (m v)) ∙ rw (upd-own f v, upd-own m v, post-nil c v) refl) }

module _ (p : Plan) where
  -- ---- modules

  pub nodes-in : (cells : List ℕ) (v : ℕ) → v < modules_of p → nodes p cells v ≡ node_in cells v
  unfolding nodes
  nodes-in cells v l = rw (lt-ltb v (modules_of p) l)

  pub nodes-put : (cells : List ℕ) (v : ℕ) (n : Node) → v < modules_of p → modules_of p * WIDTH ≤ length cells
      → nodes p (put_node cells v n) ≡ upd (nodes p cells) v n
  unfolding nodes
  nodes-put cells v n l h = fun_ext (λ u. upd-elim (λ x. nodes p (put_node cells v n) u ≡ x) (nodes p cells) v n u
      (λ e. subst (λ y. nodes p (put_node cells v n) y ≡ n) e (nodes-in (put_node cells v n) v l ∙ node-same cells v n (omega arith)))
      (λ d. ap (λ x. cond (ltb u (modules_of p)) x setup) (node-other cells v n u (λ q. d (sym q)))))

  -- ---- marks

  pub marks-put : (marks : List ℕ) (v : ℕ) (m : ℕ → ℕ) → 2 * links_of p ≤ length marks → ((k : ℕ) → is_own p v k ≡ false → m k ≡ 0)
      → marks_in p (put_marks p marks v m) ≡ upd (marks_in p marks) v m
  marks-put marks v m h z = fun_ext (λ u. upd-elim (λ x. marks_in p (put_marks p marks v m) u ≡ x) (marks_in p marks) v m u
      (λ e. subst (λ y. marks_in p (put_marks p marks v m) y ≡ m) e (fun_ext mine))
      (λ d. fun_ext (λ k. mark-other p v m marks h u k (λ q. d (sym q)))))
    where
      mine : (k : ℕ) → marks_in p (put_marks p marks v m) v k ≡ m k
      mine k = bool_cases (is_own p v k)
          (λ o. mark-same p v m marks h k o)
          (λ o. mark-not p v k (put_marks p marks v m) o ∙ sym (z k o))
