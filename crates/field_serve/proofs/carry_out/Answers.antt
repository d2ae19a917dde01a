-- field_serve::carry_out: the response is placed, by `out-placed`; messages and put-back find room, by `out-fits`, `room-place` and
-- `room_back`, and the sent count by `out-counts`.
use native.Mathlib.Omega.{arith}
use mathlib.Core.Path.{refl}
use Rattle.field_serve.proofs.Holds.{holds_on}
use Rattle.field_serve.proofs.Words.{room-place, room_back, put_holds}
use Rattle.field_serve.proofs.CarriedOut.{out-fits, out-counts, out-placed}
use Rattle.field_serve.proofs.carry_out.Goals as goal

pub place-m-requires : goal.place-m-requires
place-m-requires c =
    let y = c.requires.can refl in
    let room = room-place _ _ _ c.args.d.at _ c.args.d.sends c.requires.ready.laid c.take_out-l.ensures (out-fits _ _ _ _ _ _ _ c.requires refl) in
    record {
      laid = c.take_out-l.ensures.laid;
      small = c.requires.ready.plan.links_ok;
      says = y.feasible.says;
      first = y.feasible.first;
      second = y.feasible.second;
      room = omega (arith, room, y.count);
      node = y.feasible.node;
    }

pub requeue-requires : goal.requeue-requires
requeue-requires c =
    let y = c.requires.can refl in (
      c.place-m.ensures.words.laid,
      λ z. room_back _ _ _ _ _ c.args.d.sends c.requires.ready.laid c.take_out-l.ensures (out-fits _ _ _ _ _ _ _ c.requires refl) _ c.place-m.ensures.words y.count y.feasible.served z,
    )

pub overflow_add-f : goal.overflow_add-f
overflow_add-f c =
    omega (arith, out-counts _ _ _ _ _ _ _ c.requires refl)

pub returns : goal.returns
returns c = (
  out-placed _ _ _ _ _ _ _ c.requires refl c.place-m.ensures.cells c.place-m.ensures.marks
      (holds_on _ c.take_out-l.ensures (put_holds _ _ c.take_out-l.ensures.laid c.place-m.ensures.words))
      c.requeue.ensures refl,
  refl,
)
