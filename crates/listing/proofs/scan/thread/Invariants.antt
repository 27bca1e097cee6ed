-- The loop of `scan::thread`. Its invariant: the contours from k on are strung.
use Rattle.listing.specs.Finding.{Threads}
use Rattle.listing.proofs.scan.thread.Given as goal

abbrev pub invariant-loop-k : goal.invariant-loop-k
invariant-loop-k l = Threads l.s l.count l.initial.work l.k l.work
