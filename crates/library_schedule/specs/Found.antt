-- What the export asks of a schedule reader: how many steps are left, the step at its place, its place after that.
use Rattle.host_reader.specs.declared.Schedule.{Schedule}
use Rattle.host_reader.specs.Reader.{left_of, read_of}
use Rattle.library_schedule.specs.declared.Found.{Found}

abbrev pub found_by : Schedule → Found
found_by s = record { left = left_of s; step = (read_of s).step; place = (read_of s).reader.at }
