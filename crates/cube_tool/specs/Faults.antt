-- Which fault a run tells of what went wrong in its parts (this project's choice).
use Rattle.cube_ledger.specs.declared.fault.BuildFault.{BuildFault}
use Rattle.cube_ledger.specs.declared.fault.BuildFault.TheVariants as build_fault
use Rattle.cube_rings.specs.declared.fault.FeedingFault.{FeedingFault}
use Rattle.cube_rings.specs.declared.fault.FeedingFault.TheVariants as feeding_fault
use Rattle.cube_tool.specs.declared.fault.RunFault.{RunFault}
use Rattle.cube_tool.specs.declared.fault.RunFault.TheVariants as run_fault
use Rattle.cube_tool.specs.declared.fault.TextFault.{TextFault}
use Rattle.cube_tool.specs.declared.fault.TextFault.TheVariants as text_fault

-- the fault of a run whose feeds weren't taken
abbrev pub fault_of_feeding : FeedingFault → RunFault
fault_of_feeding feeding_fault.Memory = run_fault.Memory
fault_of_feeding feeding_fault.NoThread = run_fault.NoThread
fault_of_feeding (feeding_fault.Feed source fault) = run_fault.Feed source fault
fault_of_feeding feeding_fault.Full = run_fault.Full
fault_of_feeding (feeding_fault.Unsealed source) = run_fault.Unsealed source

-- the fault of a run on one thread of whose feeds nothing was built
abbrev pub fault_of_build : BuildFault → RunFault
fault_of_build build_fault.Memory = run_fault.Memory
fault_of_build (build_fault.Feed source fault) = run_fault.Feed source fault
fault_of_build build_fault.Full = run_fault.Full

-- the fault of a run whose text wasn't written whole
abbrev pub fault_of_text : TextFault → RunFault
fault_of_text text_fault.Full = run_fault.Full
fault_of_text (text_fault.Write sent) = run_fault.Write sent
