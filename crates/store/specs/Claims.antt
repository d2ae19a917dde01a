-- What is claimed of a store: one layout (`OneLayout`), what a taken save leaves (`SaveLeaves`), under any sequence of saves (`StaysWhole`), and what a restore
-- comes back to (`ComesBack`).
use Rattle.std.specs.Prelude.{ℕ, ◌+◌, ◌*◌, ◌≤◌, ◌<◌, ◌≡◌, ◌≢◌, ◌↔◌, true, List, [], ◌∷◌, ◌++◌, length, get_or}
use Rattle.base.specs.Limits.{AllBytes}
use Rattle.base.specs.Loop.{taken_to}
use Rattle.plan.specs.Links.{Plan, modules_of, links_of}
use Rattle.plan.specs.Same.{Same}
use Rattle.field.specs.declared.Field.{Field}
use Rattle.field.specs.Edges.{ceiling_of}
use Rattle.field.specs.State.{WIDTH}
use Rattle.field.specs.Valid.{waiting_in}
use Rattle.field.specs.Held.{Held, layout, valid, set_up}
use Rattle.field_calls.specs.Call.{Call, after, answers}
use Rattle.store.specs.Records.{size_at, records_in, joined}
use Rattle.store.specs.Names.{name_fits, name_in, is_named, without_first, shown_part}
use Rattle.store.specs.Layout.{record_bytes, record_size}
use Rattle.store.specs.Reading.{held_in, record_fits}
use Rattle.store.specs.Calls.{store_fits, save_point, find_point, part_at, restore_point}
use Rattle.store.specs.Tidied.{tidied, saved_of}

-- 1. ONE LAYOUT

-- two fields that differ only in what 31 does not look at: plan numbers past L, values of modules from N on, marks from 2 × L on
pub record SameField (f g : Field) : Type 0 where
  pub plan : Same f.plan g.plan
  pub values : (i : ℕ) → i < modules_of f.plan * WIDTH → get_or f.cells i 0 ≡ get_or g.cells i 0
  pub marks : (d : ℕ) → d < 2 * links_of f.plan → get_or f.marks d 0 ≡ get_or g.marks d 0
  pub sent : f.sent ≡ g.sent

-- how long a record is
abbrev pub record_length : List ℕ → Held → ℕ
record_length name h = record_size h.field.plan (length name) (length (waiting_in h.words))

-- "what is written reads back to the same field and words": of a field that 31 lets pass
pub record ReadsBack (name : List ℕ) (h : Held) : Type 0 where
  pub fits : record_fits (record_bytes name h) ≡ true
  pub named : name_in (record_bytes name h) ≡ name
  pub held : held_in (record_bytes name h) ≡ saved_of h
  pub same : SameField h.field (saved_of h).field
  pub size : length (record_bytes name h) ≡ record_length name h

pub record OneLayout : Type 0 where
  pub written : (name : List ℕ) (h : Held) → name_fits name ≡ true → valid h ≡ true → ReadsBack name h
  -- the whole of a field from setup
  pub whole : (p : Plan) (lent : List ℕ) → (set_up p lent).refusal ≡ 0 → (calls : List Call)
      → tidied (after calls (set_up p lent).state).field ≡ (after calls (set_up p lent).state).field
  -- what 31 does not look at is not in the bytes
  pub unseen : (name : List ℕ) (h g : Held) → name_fits name ≡ true → valid h ≡ true → valid g ≡ true → SameField h.field g.field
      → waiting_in h.words ≡ waiting_in g.words → record_bytes name h ≡ record_bytes name g
  -- "bytes that are taken and written again are the same bytes"
  pub again : (r : List ℕ) → AllBytes r → get_or r 0 0 ≡ 1 → size_at r ≡ length r → record_fits r ≡ true → record_bytes (name_in r) (held_in r) ≡ r

-- 2. SAVED, THEN FOUND AND RESTORED

pub record SaveLeaves (name : List ℕ) (h : Held) (s s' : List ℕ) : Type 0 where
  -- "Saving then finding shows exactly that record"
  pub found : (find_point name s').refusal ≡ 0
  pub shows : part_at (find_point name s') s' ≡ record_bytes name h
  -- "other names find what they found before", and restore it
  pub others : (other : List ℕ) → other ≢ name → (find_point other s').refusal ≡ (find_point other s).refusal
  pub others_show : (other : List ℕ) → other ≢ name → part_at (find_point other s') s' ≡ part_at (find_point other s) s
  pub others_restore : (other : List ℕ) → other ≢ name → (lent : List ℕ) → restore_point other s' lent ≡ restore_point other s lent
  -- "saving then restoring gives field, sent count and waiting words back, zeros behind"
  pub restores : (lent : List ℕ) → ceiling_of h.field.plan ≤ length lent
      → restore_point name s' lent ≡ taken_to (record { field = tidied h.field; words = layout (length lent) (waiting_in h.words) })
  -- the store is whole again, and as long as it was
  pub fits : store_fits s' ≡ true
  pub long : length s' ≡ length s

abbrev pub TakenSaves : Type 0
TakenSaves = (name : List ℕ) (h : Held) (s : List ℕ) → (save_point name h s).refusal ≡ 0 → SaveLeaves name h s (save_point name h s).state

-- 3. ANY SEQUENCE OF SAVES

pub record Save : Type 0 where
  pub name : List ℕ
  pub held : Held

unfoldable pub all_saved : List Save → List ℕ → List ℕ
all_saved [] s = s
all_saved (x ∷ l) s = all_saved l (save_point x.name x.held s).state

pub record StaysWhole : Type 0 where
  -- "76 never comes from within"
  pub stays : (s : List ℕ) → store_fits s ≡ true → (l : List Save) → store_fits (all_saved l s) ≡ true
  -- "a save fits exactly if the records that stay and the new one fit": of what 31, 76 and 77 let pass
  pub exact : (name : List ℕ) (h : Held) (s : List ℕ) → valid h ≡ true → store_fits s ≡ true → name_fits name ≡ true
      → ((save_point name h s).refusal ≡ 0) ↔ (length (joined (without_first (is_named name) (records_in s))) + record_length name h ≤ length s)

-- 4. WHAT A RESTORE COMES BACK TO

-- the same field, its waiting words laid out in n words
abbrev pub laid_in : ℕ → Held → Held
laid_in n h = record { field = h.field; words = layout n (waiting_in h.words) }

-- "where that field came from setup and its record is still as saved, a run after it is judged as setup, the steps up to the save, and the steps since the
-- restore": `before` is the list up to the save, `since` the list after the restore into these words
pub record GoesOn (start restored : Held) (before since : List Call) : Type 0 where
  pub is : after since restored ≡ laid_in (length restored.words) (after (before ++ since) start)
  pub answered : answers (before ++ since) start ≡ answers before start ++ answers since restored
  -- in as many words as at setup nothing is otherwise
  pub same : length restored.words ≡ length start.words → after since restored ≡ after (before ++ since) start

abbrev pub ComesBack : Type 0
ComesBack = (p : Plan) (lent : List ℕ) → (set_up p lent).refusal ≡ 0 → (before since : List Call) (name s words : List ℕ)
    → shown_part name s ≡ record_bytes name (after before (set_up p lent).state) → (restore_point name s words).refusal ≡ 0
    → GoesOn (set_up p lent).state (restore_point name s words).state before since
