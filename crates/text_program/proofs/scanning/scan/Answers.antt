use Rattle.text_program.proofs.Scans.{scan_start, scan_on, scan_stop}
use Rattle.text_program.proofs.scanning.scan.Goals as goal

pub loop-further-init : goal.loop-further-init
loop-further-init c = scan_start _

pub loop-further-preserved : goal.loop-further-preserved
loop-further-preserved c = scan_on _ c.loop-further.state _ c.loop-further.invariant c.in-Continue.ensures

pub returns-in-Break : goal.returns-in-Break
returns-in-Break c = scan_stop _ c.loop-further.state _ c.loop-further.invariant c.in-Break.ensures
