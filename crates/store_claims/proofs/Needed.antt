-- The bytes that a save needs: those of the records that stay and of the new one (`bytes-needed`).
use Rattle.std.specs.Prelude.{ℕ, ◌+◌, ◌≡◌, true, List, [], ◌∷◌, ◌++◌}
use Rattle.std.proofs.Common.{◌∙◌, append-nil}
use Rattle.std.proofs.Math.Path.{ap}
use Rattle.std.proofs.Math.ListN.{length, length-append}
use Rattle.field.specs.Held.{Held, valid}
use Rattle.store.specs.Records.{records_in, joined}
use Rattle.store.specs.Names.{name_fits, is_named, without_first}
use Rattle.store.specs.Layout.{record_bytes}
use Rattle.store.specs.Calls.{store_fits, saved}
use Rattle.store.specs.Claims.{record_length}
use Rattle.store_records.specs.Walk.{joined-append}
use Rattle.store_claims.proofs.OneLayout.{reads-back}

module _ (name : List ℕ) (h : Held) (s : List ℕ) where
  module _ (v : valid h ≡ true) (e : store_fits s ≡ true) (n : name_fits name ≡ true) where
    pub bytes-needed : length (joined (saved name h s)) ≡ length (joined (without_first (is_named name) (records_in s))) + record_length name h
    unfolding saved joined
    bytes-needed =
        let others = without_first (is_named name) (records_in s) in
        let r = record_bytes name h in
        ap length (joined-append others (r ∷ []) ∙ ap (λ t. joined others ++ t) (append-nil r)) ∙ length-append (joined others) r
        ∙ ap (λ k. length (joined others) + k) (reads-back name h n v).size
