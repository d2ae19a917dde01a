-- Labels of parts: two nodes have the same label exactly if edges of S join them (`Labels`); an edge added (`labels-add`, `labels-keep`).
use Rattle.std.specs.Prelude.{ℕ, ◌<◌, ◌≡◌, refl, ◌≢◌, ◌⊎◌, cond}
use Rattle.std.proofs.Common.{sym, ap, subst, ◌∙◌, inl, inr}
use Rattle.base.proofs.laws.Cond.{eqb-cases}
use Rattle.graph.specs.Graph.{Graph, Joins, Way, stop, go}
use Rattle.graph.proofs.laws.Ways.{way-append, edge-way, way-reverse, wider, here, joins-lt, ends-alike}
use Rattle.graph.specs.Labels.{rename}

-- fr labels the nodes of D by the parts that the edges of S make
pub record Labels (g : Graph) (D : ℕ → Type 0) (S : ℕ → Type 0) (fr : ℕ → ℕ) : Type 0 where
  -- nodes with one label are joined
  pub sound : (u v : ℕ) → D u → D v → fr u ≡ fr v → Way g S u v
  -- an edge does not leave its label
  pub whole : (e u v : ℕ) → Joins g e u v → S e → fr u ≡ fr v

pub rename-elim {κ} : (P : ℕ → Type κ) (a b m : ℕ) → (m ≡ a → P b) → (m ≢ a → P m) → P (rename a b m)
unfolding rename
rename-elim P a b m y n = eqb-cases m a (λ t. P (cond t b m)) y n

pub rename-from : (a b : ℕ) → rename a b a ≡ b
rename-from a b = rename-elim (λ x. x ≡ b) a b a (λ e. refl) (λ n. absurd (n refl))

pub rename-to : (a b : ℕ) → rename a b b ≡ b
rename-to a b = rename-elim (λ x. x ≡ b) a b b (λ e. refl) (λ n. refl)

-- S and the edge m
abbrev pub With : (ℕ → Type 0) → ℕ → ℕ → Type 0
With S m f = S f ⊎ (m ≡ f)

module _ {g : Graph} {D S : ℕ → Type 0} {fr : ℕ → ℕ} where
  pub labels-way : Labels g D S fr → {u v : ℕ} → Way g S u v → fr u ≡ fr v
  labels-way l stop = refl
  labels-way l (go {u} {v} e j s w) = l.whole e u v j s ∙ labels-way l w

  -- the same edges, put in other words
  pub labels-same : {T : ℕ → Type 0} → ((e : ℕ) → e < g.L → S e → T e) → ((e : ℕ) → e < g.L → T e → S e) → Labels g D S fr → Labels g D T fr
  labels-same to from l = record {
    sound = λ u v du dv e. wider to (l.sound u v du dv e);
    whole = λ e u v j t. l.whole e u v j (from e (joins-lt j) t);
  }

  -- the edge m, which joins a and b, is added: a's part takes b's label
  pub labels-add : (m a b : ℕ) → D a → D b → Joins g m a b → Labels g D S fr → Labels g D (With S m) (λ w. rename (fr a) (fr b) (fr w))
  labels-add m a b da db j l = record { sound = sound; whole = whole }
    where
      old : {u v : ℕ} → D u → D v → fr u ≡ fr v → Way g (With S m) u v
      old {u} {v} du dv e = wider (λ f lf s. inl s) (l.sound u v du dv e)

      over : {u v : ℕ} → D u → D v → fr u ≡ fr a → fr v ≡ fr b → Way g (With S m) u v
      over du dv p q = way-append (old du da p) (way-append (edge-way j (inr refl)) (old db dv (sym q)))

      sound : (u v : ℕ) → D u → D v → rename (fr a) (fr b) (fr u) ≡ rename (fr a) (fr b) (fr v) → Way g (With S m) u v
      sound u v du dv = rename-elim (λ x. x ≡ rename (fr a) (fr b) (fr v) → Way g (With S m) u v) (fr a) (fr b) (fr u)
          (λ p. rename-elim (λ y. fr b ≡ y → Way g (With S m) u v) (fr a) (fr b) (fr v) (λ q e. old du dv (p ∙ sym q)) (λ q e. over du dv p (sym e)))
          (λ p. rename-elim (λ y. fr u ≡ y → Way g (With S m) u v) (fr a) (fr b) (fr v) (λ q e. way-reverse (over dv du q e)) (λ q e. old du dv e))

      both : rename (fr a) (fr b) (fr a) ≡ rename (fr a) (fr b) (fr b)
      both = rename-from (fr a) (fr b) ∙ sym (rename-to (fr a) (fr b))

      whole : (e u v : ℕ) → Joins g e u v → With S m e → rename (fr a) (fr b) (fr u) ≡ rename (fr a) (fr b) (fr v)
      whole e u v k (inl s) = ap (rename (fr a) (fr b)) (l.whole e u v k s)
      whole e u v k (inr q) = ends-alike (λ w. rename (fr a) (fr b) (fr w)) (subst (λ x. Joins g x u v) (sym q) k) j both

  -- an edge m whose ends have one label already changes no label
  pub labels-keep : (m a b : ℕ) → Joins g m a b → fr a ≡ fr b → Labels g D S fr → Labels g D (With S m) fr
  labels-keep m a b j p l = record { sound = λ u v du dv e. wider (λ f lf s. inl s) (l.sound u v du dv e); whole = whole }
    where
      whole : (e u v : ℕ) → Joins g e u v → With S m e → fr u ≡ fr v
      whole e u v k (inl s) = l.whole e u v k s
      whole e u v k (inr q) = ends-alike fr (subst (λ x. Joins g x u v) (sym q) k) j p

-- with no edge each node is a part
pub labels-none : (g : Graph) (D : ℕ → Type 0) → Labels g D (λ e. ⊥) (λ w. w)
labels-none g D = record { sound = λ u v du dv e. here e; whole = λ e u v j s. absurd s }
