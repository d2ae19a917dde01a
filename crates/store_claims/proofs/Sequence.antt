-- Any sequence of saves leaves a whole store, and a save fits exactly if the records that stay and the new one fit (`stays-whole`).
use Rattle.std.specs.Prelude.{ℕ, ◌+◌, ◌≤◌, ◌≡◌, ◌↔◌, true, List, [], ◌∷◌}
use Rattle.std.proofs.Common.{arith, ◌∙◌}
use Rattle.std.proofs.Math.Path.{ap}
use Rattle.std.proofs.Math.ListN.{length}
use Rattle.base.proofs.laws.Cond.{by-eq}
use Rattle.field.specs.Held.{Held, valid}
use Rattle.store.specs.Records.{records_in, joined}
use Rattle.store.specs.Names.{name_fits, is_named, without_first}
use Rattle.store.specs.Calls.{store_fits, save_refusal, save_point}
use Rattle.store.specs.Claims.{record_length, Save, all_saved, StaysWhole}
use Rattle.store_claims.proofs.Saves.{save-passed, passed-save, save-refused, taken-saves}
use Rattle.store_claims.proofs.Needed.{bytes-needed}

module _ (name : List ℕ) (h : Held) (s : List ℕ) where
  save-whole : store_fits s ≡ true → store_fits (save_point name h s).state ≡ true
  unfolding save_point
  save-whole e = by-eq (save_refusal name h s) 0 (λ z. (taken-saves name h s z).fits) (λ d. ap store_fits (save-refused name h s d) ∙ e)

  module _ (v : valid h ≡ true) (e : store_fits s ≡ true) (n : name_fits name ≡ true) where
    save-exact : ((save_point name h s).refusal ≡ 0) ↔ (length (joined (without_first (is_named name) (records_in s))) + record_length name h ≤ length s)
    unfolding save_point
    save-exact = (λ z. omega (arith, (save-passed name h s z).room, bytes-needed name h s v e n), λ l. passed-save name h s (record { valid = v; whole = e; good = n; room = omega (arith, bytes-needed name h s v e n) }))

all_whole : (s : List ℕ) → store_fits s ≡ true → (l : List Save) → store_fits (all_saved l s) ≡ true
unfolding all_saved
all_whole s e [] = e
all_whole s e (x ∷ l) = all_whole (save_point x.name x.held s).state (save-whole x.name x.held s e) l

pub stays-whole : StaysWhole
stays-whole = record { stays = all_whole; exact = save-exact }
