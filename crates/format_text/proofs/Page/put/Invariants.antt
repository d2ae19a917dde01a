-- format_text::Page::put: a loop; what is put in all is what is put behind i bytes, with the text that is left (`put-turn`). It ends by `put-end` or
-- `put-none`.
use Rattle.std.proofs.Common.{◌≡◌, drop}
use Rattle.format_text.specs.Put.{put}
use Rattle.format_text.specs.Pages.{page_of}
use Rattle.format_text.proofs.Page.put.Given as goal

abbrev pub invariant-loop-x : goal.invariant-loop-x
invariant-loop-x l = record {
  same : l.self.bytes.ghost_name ≡ l.initial.self.bytes.ghost_name;
  rest : put (page_of l.initial.self) l.s ≡ put (page_of l.self) (drop l.x-index l.s);
}
