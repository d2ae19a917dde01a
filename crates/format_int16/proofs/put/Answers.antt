-- format_int16::put: the library's two bytes are the definition's, and one copy is their two stores (`two-stores`).
use Rattle.std.proofs.Common.{◌/◌, ◌%◌, ◌≡◌, ◌∙◌, arith}
use Rattle.format_int16.proofs.laws.Int16.{two-stores}
use Rattle.format_int16.proofs.put.Goals as goal

pub returns : goal.returns
returns c =
    let x = c.args.x in
    let high : x / 256 % 256 ≡ x / 256 = omega arith in
    rw (c.copy_from_slice.ensures.after ∙ c.to_be_bytes.ensures, high) (two-stores c.args.s.now c.args.i _ (x / 256) (x % 256) (omega arith) (omega arith))
