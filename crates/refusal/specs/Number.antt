-- The refusals' numbers, as documents 01 and 02 have them.
use Rattle.std.specs.Prelude.{ℕ, Result, Ok, Err}
use Rattle.refusal.specs.declared.Refusal.{Refusal}
use Rattle.refusal.specs.declared.Refusal.TheVariants.{PlanShort, PlanVersion, PlanLength, PlanModules, PlanLinks, LinkEnds, LinkOrder, LinkReading, TreeBuffer, TooFewWords, PlanBuffer, Field, Response, CeilingPassed, NoModule, NoDirectedLink, Awake, NothingToHandOver, EmptyQueue, ScheduleShort, ScheduleVersion, ScheduleLength, StepKind, FrameSize, FrameHead, Message, FrameBuffer, NoTree, NoSender, Cues, PreviewBuffer, Store, NameWrong, StoreFull, PathBuffer}

abbrev pub numbered : Refusal → ℕ
numbered PlanShort = 11
numbered PlanVersion = 12
numbered PlanLength = 13
numbered PlanModules = 14
numbered PlanLinks = 15
numbered LinkEnds = 16
numbered LinkOrder = 17
numbered LinkReading = 18
numbered TreeBuffer = 20
numbered TooFewWords = 21
numbered PlanBuffer = 22
numbered Field = 31
numbered Response = 32
numbered CeilingPassed = 33
numbered NoModule = 41
numbered NoDirectedLink = 42
numbered Awake = 43
numbered NothingToHandOver = 44
numbered EmptyQueue = 45
numbered ScheduleShort = 51
numbered ScheduleVersion = 52
numbered ScheduleLength = 53
numbered StepKind = 54
numbered FrameSize = 61
numbered FrameHead = 62
numbered Message = 63
numbered FrameBuffer = 64
numbered NoTree = 71
numbered NoSender = 72
numbered Cues = 73
numbered PreviewBuffer = 75
numbered Store = 76
numbered NameWrong = 77
numbered StoreFull = 78
numbered PathBuffer = 79

-- what a call answers, as document 01 has it: the refusal's number, 0 where it is not refused
abbrev pub refusal_in : {A : Type 0} → Result A Refusal → ℕ
refusal_in (Ok _) = 0
refusal_in (Err r) = numbered r
