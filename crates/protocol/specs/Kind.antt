-- Kinds of messages: counters for sums over a channel, what may stand before what (`Fits`), the level at the far end of a channel (`top`).
use Rattle.std.specs.Prelude.{ℕ, ◌+◌, ◌*◌, ◌<◌, ◌≡◌, refl, ◌≢◌, ◌⊎◌, List, [], ◌∷◌}
use Rattle.std.proofs.Common.{arith, ap, inl, inr}
use Rattle.format_message.specs.Msg.{Msg, connect, initiate, test, accept, reject, report, change}

-- a value for each kind of message: Connect, Initiate, Test, Accept, Reject, Report, Change-root
abbrev pub pick : (c i t a j r k : ℕ) → Msg → ℕ
pick c i t a j r k (connect l) = c
pick c i t a j r k (initiate l f x) = i
pick c i t a j r k (test l f) = t
pick c i t a j r k accept = a
pick c i t a j r k reject = j
pick c i t a j r k (report w) = r
pick c i t a j r k change = k

-- counters. 1 for a Connect
abbrev pub is_c : Msg → ℕ
is_c = pick 1 0 0 0 0 0 0

-- 1 for an Initiate
abbrev pub is_i : Msg → ℕ
is_i = pick 0 1 0 0 0 0 0

-- 1 for a Connect or an Initiate
abbrev pub is_ci : Msg → ℕ
is_ci = pick 1 1 0 0 0 0 0

-- 1 for a Test
abbrev pub is_t : Msg → ℕ
is_t = pick 0 0 1 0 0 0 0

-- 1 for an answer: an Accept or a Reject
abbrev pub is_a : Msg → ℕ
is_a = pick 0 0 0 1 1 0 0

-- 1 for an Accept
abbrev pub is_y : Msg → ℕ
is_y = pick 0 0 0 1 0 0 0

-- 1 for a Report
abbrev pub is_r : Msg → ℕ
is_r = pick 0 0 0 0 0 1 0

-- 1 for a Change-root
abbrev pub is_k : Msg → ℕ
is_k = pick 0 0 0 0 0 0 1

-- the kind's number
abbrev pub kind : Msg → ℕ
kind = pick 1 2 3 4 5 6 7

-- first argument: a level, or the weight of a Report
abbrev pub arg1 : Msg → ℕ
arg1 (connect l) = l
arg1 (initiate l f x) = l
arg1 (test l f) = l
arg1 accept = 0
arg1 reject = 0
arg1 (report w) = w
arg1 change = 0

-- second argument: an identity
abbrev pub arg2 : Msg → ℕ
arg2 (connect l) = 0
arg2 (initiate l f x) = f
arg2 (test l f) = f
arg2 accept = 0
arg2 reject = 0
arg2 (report w) = 0
arg2 change = 0

-- third argument: the Find bit
abbrev pub arg3 : Msg → ℕ
arg3 (connect l) = 0
arg3 (initiate l f x) = x
arg3 (test l f) = 0
arg3 accept = 0
arg3 reject = 0
arg3 (report w) = 0
arg3 change = 0

-- a Connect of level n, or an answer
abbrev pub Only : ℕ → Msg → Type 0
Only n (connect l) = l ≡ n
Only n (initiate l f x) = ⊥
Only n (test l f) = ⊥
Only n accept = Unit {0}
Only n reject = Unit {0}
Only n (report w) = ⊥
Only n change = ⊥

-- what may be on its way to a sleeper
abbrev pub Rouse : Msg → Type 0
Rouse (connect l) = Unit {0}
Rouse (initiate l f x) = ⊥
Rouse (test l f) = Unit {0}
Rouse accept = ⊥
Rouse reject = ⊥
Rouse (report w) = ⊥
Rouse change = ⊥

-- what may stand behind an Initiate of level n
abbrev After : ℕ → Msg → Type 0
After n (connect l) = ⊥
After n (initiate l f x) = n < l
After n (test l f) = Unit {0}
After n accept = Unit {0}
After n reject = Unit {0}
After n (report w) = Unit {0}
After n change = Unit {0}

-- the first may stand before the second in a channel
abbrev pub Fits : Msg → Msg → Type 0
Fits (connect l) m = is_c m ≡ 0
Fits (initiate l f x) m = After l m
Fits (test l f) m = is_t m ≡ 0
Fits accept m = is_a m ≡ 0
Fits reject m = is_a m ≡ 0
Fits (report w) m = is_r m ≡ 0
Fits change m = is_k m ≡ 0

-- the receiver's level once it has served m; a is its level now
abbrev pub level_after : ℕ → Msg → ℕ
level_after a (connect l) = a
level_after a (initiate l f x) = l
level_after a (test l f) = a
level_after a accept = a
level_after a reject = a
level_after a (report w) = a
level_after a change = a

-- the same for all messages of a channel
abbrev pub top : ℕ → List Msg → ℕ
top a [] = a
top a (m ∷ r) = top (level_after a m) r

-- m leaves it as it is, or is an Initiate of the new level
pub raise-in : (a : ℕ) (m : Msg) → (level_after a m ≡ a) ⊎ ((f : ℕ) × (x : ℕ) × (initiate (level_after a m) f x ≡ m))
raise-in a (connect l) = inl refl
raise-in a (initiate l f x) = inr (f, x, refl)
raise-in a (test l f) = inl refl
raise-in a accept = inl refl
raise-in a reject = inl refl
raise-in a (report w) = inl refl
raise-in a change = inl refl

-- a Connect or an Initiate is one of them
pub call-parts : (m : Msg) → is_ci m ≡ is_c m + is_i m
call-parts (connect l) = refl
call-parts (initiate l f x) = refl
call-parts (test l f) = refl
call-parts accept = refl
call-parts reject = refl
call-parts (report w) = refl
call-parts change = refl

pub kinds : {x y : Msg} → kind x ≢ kind y → x ≢ y
kinds n e = n (ap kind e)

-- ---- what may stand before a message x that is sent

-- m is not of x's kind; an Initiate lets x stand behind it
fits_by : (x m : Msg) → is_c m * is_c x + is_t m * is_t x + is_a m * is_a x + is_r m * is_r x + is_k m * is_k x ≡ 0
    → ((l f y : ℕ) → m ≡ initiate l f y → After l x) → Fits m x
fits_by x (connect l) z h = omega arith
fits_by x (initiate l f y) z h = h l f y refl
fits_by x (test l f) z h = omega arith
fits_by x accept z h = omega arith
fits_by x reject z h = omega arith
fits_by x (report w) z h = omega arith
fits_by x change z h = omega arith

pub fits-connect : (n : ℕ) (m : Msg) → is_ci m ≡ 0 → Fits m (connect n)
fits-connect n m z = fits_by (connect n) m (omega (arith, call-parts m)) (λ l f y e. omega (arith, ap is_ci e))

pub fits-test : (n g : ℕ) (m : Msg) → is_t m ≡ 0 → Fits m (test n g)
fits-test n g m z = fits_by (test n g) m (omega arith) (λ l f y e. tt)

pub fits-accept : (m : Msg) → is_a m ≡ 0 → Fits m accept
fits-accept m z = fits_by accept m (omega arith) (λ l f y e. tt)

pub fits-reject : (m : Msg) → is_a m ≡ 0 → Fits m reject
fits-reject m z = fits_by reject m (omega arith) (λ l f y e. tt)

pub fits-report : (n : ℕ) (m : Msg) → is_r m ≡ 0 → Fits m (report n)
fits-report n m z = fits_by (report n) m (omega arith) (λ l f y e. tt)

pub fits-change : (m : Msg) → is_k m ≡ 0 → Fits m change
fits-change m z = fits_by change m (omega arith) (λ l f y e. tt)

-- an Initiate goes behind those of lower levels
pub fits-initiate : (n g y : ℕ) (m : Msg) → ((l f x : ℕ) → m ≡ initiate l f x → l < n) → Fits m (initiate n g y)
fits-initiate n g y m h = fits_by (initiate n g y) m (omega arith) h
