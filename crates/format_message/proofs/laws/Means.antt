-- A listed header byte and carried number are those of exactly one message, whose parts are in range (`means`, `means-one`); and back (`has_listed`).
use Rattle.std.specs.Prelude.{ℕ, zero, suc, ◌<◌, ◌≡◌, ◌⊎◌, Bool, false, ◌&&◌, ◌||◌, ltb}
use Rattle.std.proofs.Math.Path.{refl}
use Rattle.std.proofs.Common.{sym, ap, ap₂, ◌∙◌, arith}
use Rattle.std.proofs.Math.Logic.{inl, inr, ⊎_elim}
use Rattle.std.proofs.Math.Bool.{true, or-true, and-eq-true_iff}
use Rattle.std.proofs.lemmas.Bool.{false≢true}
use Rattle.std.proofs.Math.Dec.{eqb}
use borrow.Author.Tests.{eqb-true, ltb-true, lt-ltb, eq-eqb}
use Rattle.base.specs.Limits.{max_links}
use Rattle.format_message.specs.Msg.{none, Msg, connect, initiate, test, accept, reject, report, change}
use Rattle.format_message.specs.Header.{Parts, parts, parts_of, header_byte, header_of, kind_at, level_at, find_at, carried_of, msg_of, meant}
use Rattle.format_message.specs.Listed.{is_link, bare, listed_as, listed, Listed}
use Rattle.format_message.proofs.laws.Byte.{byte-of-parts, byte-lt, parts-of-byte}

-- each kind that three bits hold
kinds : (P : ℕ → Type 0) → P 0 → P 1 → P 2 → P 3 → P 4 → P 5 → P 6 → P 7 → (k : ℕ) → k < 8 → P k
kinds P a b c d e f g h zero l = a
kinds P a b c d e f g h (suc zero) l = b
kinds P a b c d e f g h (suc (suc zero)) l = c
kinds P a b c d e f g h (suc (suc (suc zero))) l = d
kinds P a b c d e f g h (suc (suc (suc (suc zero)))) l = e
kinds P a b c d e f g h (suc (suc (suc (suc (suc zero))))) l = f
kinds P a b c d e f g h (suc (suc (suc (suc (suc (suc zero)))))) l = g
kinds P a b c d e f g h (suc (suc (suc (suc (suc (suc (suc zero))))))) l = h
kinds P a b c d e f g h (suc (suc (suc (suc (suc (suc (suc (suc k)))))))) l = absurd (omega arith)

-- m is a listed message with these parts
pub record Has (k l c f : ℕ) (m : Msg) : Type 0 where
  pub same : parts_of m ≡ parts k l c f
  pub fits : Listed m

or_cases : (a b : Bool) → (a || b) ≡ true → (a ≡ true) ⊎ (b ≡ true)
or_cases true b e = inl refl
or_cases false b e = inr e

-- three tests that all hold
three : (a b c : Bool) → (a && b && c) ≡ true → (a ≡ true) × (b ≡ true) × (c ≡ true)
three a b c e =
    let x = (and-eq-true_iff (a && b) c).0 e in
    let y = (and-eq-true_iff a b).0 x.0 in
    (y.0, y.1, x.1)

module _ (l c f : ℕ) where
  -- unused parts are 0 and none
  bare-has : (k : ℕ) (m : Msg) → parts_of m ≡ parts k 0 none 0 → Listed m → bare l c f ≡ true → Has k l c f m
  unfolding bare
  bare-has k m p h e =
      let x = three (eqb l 0) (eqb f 0) (eqb c none) e in
      let zl = eqb-true l 0 x.0 in
      let zf = eqb-true f 0 x.1 in
      let zc = eqb-true c none x.2 in
      record { same = cc; fits = h }

  connect-has : l < 8 → (eqb f 0 && eqb c none) ≡ true → Has 1 l c f (connect l)
  unfolding parts_of
  connect-has pl e =
      let x = (and-eq-true_iff (eqb f 0) (eqb c none)).0 e in
      let zf = eqb-true f 0 x.0 in
      let zc = eqb-true c none x.1 in
      record { same = cc; fits = pl }

  initiate-has : l < 8 → f < 2 → (ltb 0 l && is_link c) ≡ true → Has 2 l c f (initiate l c f)
  unfolding parts_of
  initiate-has pl pf e =
      let x = (and-eq-true_iff (ltb 0 l) (is_link c)).0 e in
      record { same = refl; fits = (ltb-true 0 l x.0, pl, ltb-true c max_links x.1, pf) }

  test_has : l < 8 → (ltb 0 l && eqb f 0 && is_link c) ≡ true → Has 3 l c f (test l c)
  unfolding parts_of
  test_has pl e =
      let x = three (ltb 0 l) (eqb f 0) (is_link c) e in
      let zf = eqb-true f 0 x.1 in
      record { same = cc; fits = (ltb-true 0 l x.0, pl, ltb-true c max_links x.2) }

  report-has : (eqb l 0 && eqb f 0 && (is_link c || eqb c none)) ≡ true → Has 6 l c f (report c)
  unfolding parts_of
  report-has e =
      let x = three (eqb l 0) (eqb f 0) (is_link c || eqb c none) e in
      let zl = eqb-true l 0 x.0 in
      let zf = eqb-true f 0 x.1 in
      record { same = cc; fits = ⊎_elim (λ w. inl (ltb-true c max_links w)) (λ w. inr (eqb-true c none w)) (or_cases (is_link c) (eqb c none) x.2) }

  pub listed_has : (k : ℕ) → k < 8 → l < 8 → f < 2 → listed_as k l c f ≡ true → Has k l c f (msg_of k l c f)
  unfolding listed_as msg_of parts_of
  listed_has k pk pl pf =
      kinds (λ k. listed_as k l c f ≡ true → Has k l c f (msg_of k l c f))
      (λ e. absurd (false≢true e))
      (connect-has pl)
      (initiate-has pl pf)
      (test_has pl)
      (bare-has 4 accept refl tt)
      (bare-has 5 reject refl tt)
      report-has
      (bare-has 7 change refl tt)
      k
      pk

-- every message is told by its parts
pub msg-of-parts : (m : Msg) → msg_of (parts_of m).kind (parts_of m).level (parts_of m).carried (parts_of m).find ≡ m
unfolding msg_of parts_of
msg-of-parts (connect l) = refl
msg-of-parts (initiate l i f) = refl
msg-of-parts (test l i) = refl
msg-of-parts accept = refl
msg-of-parts reject = refl
msg-of-parts (report w) = refl
msg-of-parts change = refl

-- the parts of a listed message fit the bits they have
pub record InBits (p : Parts) : Type 0 where
  pub kind : p.kind < 8
  pub level : p.level < 8
  pub find : p.find < 2
  pub carried : p.carried < 65536

in-bits-of : (k l c f : ℕ) → k < 8 → l < 8 → c < 65536 → f < 2 → InBits (parts k l c f)
in-bits-of k l c f a b d e = record { kind = a; level = b; find = e; carried = d }

pub in-bits : (m : Msg) → Listed m → InBits (parts_of m)
unfolding parts_of
in-bits (connect l) h = in-bits-of _ _ _ _ (omega arith) h (omega arith) (omega arith)
in-bits (initiate l i f) h = in-bits-of _ _ _ _ (omega arith) h.1 (omega arith) h.3
in-bits (test l i) h = in-bits-of _ _ _ _ (omega arith) h.1 (omega arith) (omega arith)
in-bits accept h = in-bits-of _ _ _ _ (omega arith) (omega arith) (omega arith) (omega arith)
in-bits reject h = in-bits-of _ _ _ _ (omega arith) (omega arith) (omega arith) (omega arith)
in-bits (report w) h = in-bits-of _ _ _ _ (omega arith) (omega arith) (⊎_elim (λ x. omega arith) (λ x. omega arith) h) (omega arith)
in-bits change h = in-bits-of _ _ _ _ (omega arith) (omega arith) (omega arith) (omega arith)

in_list : (m : Msg) → Listed m → listed_as (parts_of m).kind (parts_of m).level (parts_of m).carried (parts_of m).find ≡ true
unfolding listed_as bare parts_of
in_list (connect l) h = refl
in_list (initiate l i f) h = simp (lt-ltb 0 l h.0, lt-ltb i max_links h.2)
in_list (test l i) h = simp (lt-ltb 0 l h.0, lt-ltb i max_links h.2)
in_list accept h = refl
in_list reject h = refl
in_list (report w) h = ⊎_elim (λ x. simp (lt-ltb w max_links x)) (λ x. simp (eq-eqb w none x, or-true)) h
in_list change h = refl

-- m is a listed message with this header byte and carried number
pub record Means (h c : ℕ) (m : Msg) : Type 0 where
  pub header : header_of m ≡ h
  pub carried : carried_of m ≡ c
  pub fits : Listed m

-- Every listed header byte and carried number mean a message ..
pub means : (h c : ℕ) → listed h c ≡ true → Means h c (meant h c)
unfolding listed
means h c e =
    let x = (and-eq-true_iff (ltb h 128) (listed_as (kind_at h) (level_at h) c (find_at h))).0 e in
    let p = listed_has (level_at h) c (find_at h) (kind_at h) (omega arith) (omega arith) (omega arith) x.1 in
    record {
      header = ap (λ p. header_byte p.kind p.level p.find) p.same ∙ byte-of-parts h (ltb-true h 128 x.0);
      carried = ap (λ p. p.carried) p.same;
      fits = p.fits;
    }

-- a listed message's header byte, taken apart
header-parts : (m : Msg) → Listed m
    → (kind_at (header_of m) ≡ (parts_of m).kind) × (level_at (header_of m) ≡ (parts_of m).level) × (find_at (header_of m) ≡ (parts_of m).find)
header-parts m h = let b = in-bits m h in parts-of-byte (parts_of m).kind (parts_of m).level (parts_of m).find b.kind b.level b.find

pub header-lt : (m : Msg) → Listed m → header_of m < 128
header-lt m h = let b = in-bits m h in byte-lt (parts_of m).kind (parts_of m).level (parts_of m).find b.kind b.level b.find

-- .. every listed message has a listed header byte and carried number ..
pub has_listed : (m : Msg) → Listed m → listed (header_of m) (carried_of m) ≡ true
unfolding listed
has_listed m h = let q = header-parts m h in simp (lt-ltb _ 128 (header-lt m h), q.0, q.1, q.2, in_list m h)

-- .. and is the only one that has them
pub means-back : (m : Msg) → Listed m → meant (header_of m) (carried_of m) ≡ m
means-back m h = let q = header-parts m h in rw (q.0, q.1, q.2) (msg-of-parts m)

pub means-one : {h c : ℕ} {m : Msg} → Means h c m → m ≡ meant h c
means-one {h} {c} {m} x = sym (means-back m x.fits) ∙ ap₂ meant x.header x.carried
