-- THE INVARIANT. Every small step keeps it; it holds at setup.
use Rattle.protocol.specs.Network.{Network}
use Rattle.protocol.specs.State.{ProtocolState}
use Rattle.protocol.specs.Fragments.{Ranges, Values, Levels, Sizes, Cores, Sleepers, Markings, Inbounds}
use Rattle.protocol.specs.Decisions.{Halves, ChangeRoots, Rootings, Finishes}
use Rattle.protocol.specs.Search.{Parents, Kids, Finds, Pending, FindCounts, Tests, Weights}
use Rattle.protocol.specs.Traffic.{Hush, Tokens, Connects, Initiates, Telling, Testing, Answers, Reports, Owing, Bests, Ordered}

pub record Inv (p : Network) (s : ProtocolState) : Type 0 where
  -- over tables
  pub ranges : Ranges s.st s.halt s.due s.dk s.mark
  pub values : Values p s.bw s.be
  pub levels : Levels p s.lev s.id s.fr s.gl s.gc
  pub sizes : Sizes p s.fr s.gl
  pub cores : Cores p s.fr s.gl s.gc s.mark
  pub sleepers : Sleepers p s.st s.fr s.gl s.dk s.due s.bw s.be s.ub s.halt s.mark
  pub markings : Markings p s.fr s.mark
  pub inbounds : Inbounds p s.ub s.ib s.mark
  pub halves : Halves p s.dk s.dn s.de s.fr s.gl s.lev s.ub s.mark
  pub change_roots : ChangeRoots p s.dk s.dn s.de s.fr s.gl s.gc s.lev s.ib s.ub s.bw s.mark
  pub rootings : Rootings p s.dk s.dn s.fr s.gl s.lev s.ib s.ub s.bw s.mark s.oo
  pub finishes : Finishes p s.dk s.fr s.gl s.gc s.lev s.bw s.halt s.due s.mark
  pub parents : Parents p s.lev s.fr s.gl s.gc s.ib s.ub s.dep s.side s.dk
  pub kids : Kids p s.lev s.fr s.gl s.gc s.ib s.ub s.due s.mark
  pub finds : Finds s.st s.lev s.fr s.gl s.dk s.due
  pub pending : Pending s.st s.te s.fc s.ot s.op
  pub find_counts : FindCounts p s.fc s.owe
  pub tests : Tests p s.te s.ib s.mark s.ot
  pub weights : Weights p s.lev s.fr s.gl s.bw s.be s.side
  -- over channels
  pub hush : Hush p s
  pub tokens : Tokens p s
  pub connects : Connects p s
  pub initiates : Initiates p s
  pub telling : Telling p s
  pub testing : Testing p s
  pub answers : Answers p s
  pub reports : Reports p s
  pub owing : Owing p s
  pub bests : Bests p s
  pub ordered : Ordered p s
