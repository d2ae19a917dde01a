-- One run of stores behind another is one run (`sets-append`), and one copy into a part (`part-set`); one store more behind what is written at the front
-- (`front-set`).
use Rattle.std.specs.Prelude.{ℕ, suc, ◌+◌, ◌≤◌, ◌<◌, ◌≡◌, List, [], ◌∷◌, ◌++◌, length, get_or, set, take, drop}
use Rattle.std.proofs.Common.{add-zero, arith, sym, ap, ◌∙◌, append_assoc, drop-cons}
use Rattle.std.proofs.lemmas.List.Edits.{sets, sets-eq}
use Rattle.std.proofs.lemmas.List.{set_at, drop-drop}
use Rattle.std.proofs.Math.Seq.{append_snoc}
use borrow.Rule.Slice.PartMut.{put_mid}

pub sets-append : {A : Type 0} (l : List A) (i : ℕ) (vs us : List A) → sets (sets l i vs) (i + length vs) us ≡ sets l i (vs ++ us)
sets-append l i [] us = ap (λ (k : ℕ). sets l k us) (add-zero i)
sets-append l i (a ∷ vs) us =
    let e : i + suc (length vs) ≡ suc i + length vs = omega arith in
    ap (λ (k : ℕ). sets (sets (set l i a) (suc i) vs) k us) e ∙ sets-append (set l i a) (suc i) vs us

-- z is any value: it stands for a read past the end, and there is none
pub front-set : {A : Type 0} (done old : List A) (i : ℕ) (x z : A) → length done ≡ i → i < length old
    → set (done ++ drop i old) i x ≡ (done ++ (x ∷ [])) ++ drop (suc i) old
front-set {A} done old i x z e l =
    ap (λ (r : List A). set (done ++ r) i x) (drop-cons old i z l)
    ∙ set_at done (get_or old i z) (drop (suc i) old) x i e
    ∙ sym (append_snoc done x (drop (suc i) old))

-- a part overwritten
pub part-set : {A : Type 0} (l vs : List A) (i k : ℕ) → k ≡ length vs → i + k ≤ length l → put_mid i k l vs ≡ sets l i vs
part-set l vs i k e h = rw (sets-eq vs l i (omega arith), e, drop-drop (length vs) i l) (sym (append_assoc (take i l) vs (drop (i + length vs) l)))
