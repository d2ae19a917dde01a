-- A record's parts one behind the other: its head (`head-run`), its field (`field-run`), its field and words behind its head (`record-run`); two in general (`part-on`).
use Prim.Native.Nat.{ℕ, ◌+◌, ◌-◌, ◌≤◌}
use native.Mathlib.Omega.{arith}
use mathlib.Core.Path.{◌≡◌, ap, ◌∙◌}
use mathlib.Core.List.{List, ◌∷◌, ◌++◌, map}
use lib.ListN.{length, set, take, drop, length-append, length-drop}
use lib.Seq.{sets, length-sets}
use Rattle.format_wide.specs.Wide.{bytes32, put32}
use Rattle.plan.specs.Links.{Plan}
use Rattle.plan_file.specs.Layout.{bytes_of, encode}
use Rattle.field.specs.declared.Field.{Field}
use Rattle.field.specs.Held.{field_from}
use Rattle.store.specs.Layout.{entry_at, places, field_bytes, word_bytes, record_with}
use Rattle.store_field.proofs.Bytes.{sets-on, part-lent, part-back}

-- how long a part to the end is
pub part-size : (s : List ℕ) (a : ℕ) → length (take (length s - a) (drop a s)) ≡ length s - a
part-size s a = ap length (part-lent s a) ∙ length-drop a s

-- a part's bytes behind those written before
pub part-on : (s t y : List ℕ) (a : ℕ) (xs ys : List ℕ) → a ≤ length s → a ≡ length xs → t ≡ sets s 0 xs → y ≡ sets (take (length t - a) (drop a t)) 0 ys
    → take a t ++ (y ++ drop (length t - a) (drop a t)) ≡ sets s 0 (xs ++ ys)
part-on s t y a xs ys l e g h =
    part-back t y a ys (omega (arith, ap length g, length-sets s 0 xs)) h ∙ sets-on s t 0 a xs ys (let n : a ≡ 0 + length xs = omega arith in n) g

pub head-run : (s name : List ℕ) (follow : ℕ) {t u : List ℕ} → t ≡ put32 (set s 0 1) 1 follow → u ≡ sets (set t 5 (length name)) 6 name
    → u ≡ sets s 0 (1 ∷ (bytes32 follow ++ (length name ∷ name)))
head-run s name follow {t} {u} g h = h ∙ ap (λ l. sets (set l 5 (length name)) 6 name) g

pub field-run : (p : Plan) (cells marks : List ℕ) (sent : ℕ) (s : List ℕ) (a : ℕ) {t y : List ℕ} → a ≤ length s → a ≡ length (encode p) → t ≡ sets s 0 (encode p)
    → y ≡ sets (take (length t - a) (drop a t)) 0 (bytes_of (sent ∷ map (entry_at (field_from p cells marks sent)) (places p)))
    → take a t ++ (y ++ drop (length t - a) (drop a t)) ≡ sets s 0 (field_bytes (field_from p cells marks sent))
unfolding field_bytes
field-run p cells marks sent s a {t} {y} l e g h = part-on s t y a (encode p) (bytes_of (sent ∷ map (entry_at (field_from p cells marks sent)) (places p))) l e g h

pub record-run : (name : List ℕ) (f : Field) (ws s : List ℕ) (follow a : ℕ) {t y : List ℕ} → follow ≡ 1 + length name + (length (field_bytes f) + length (word_bytes ws))
    → a ≤ length s → a ≡ 6 + length name → t ≡ sets s 0 (1 ∷ (bytes32 follow ++ (length name ∷ name)))
    → y ≡ sets (take (length t - a) (drop a t)) 0 (field_bytes f ++ word_bytes ws) → take a t ++ (y ++ drop (length t - a) (drop a t)) ≡ sets s 0 (record_with name f ws)
unfolding record_with
record-run name f ws s follow a {t} {y} n l e g h =
    part-on s t y a (1 ∷ (bytes32 follow ++ (length name ∷ name))) (field_bytes f ++ word_bytes ws) l (omega arith) g h
    ∙ ap (λ k. sets s 0 (1 ∷ (bytes32 k ++ ((length name ∷ name) ++ (field_bytes f ++ word_bytes ws)))))
    (let m : follow ≡ length ((length name ∷ name) ++ (field_bytes f ++ word_bytes ws)) = omega (arith, length-append name (field_bytes f ++ word_bytes ws), length-append (field_bytes f) (word_bytes ws)) in m)
