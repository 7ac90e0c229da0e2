-- The lister shows what the builder took, and finishing is never refused.
use Rattle.message.proofs.Laws.Built.{started_at}
use Rattle.message.specs.Builder.{started}
use Rattle.message.specs.Sizes.{header}
use Rattle.demands.proofs.Laws.Lists.{lists}
use Rattle.demands.proofs.Laws.Runs.{start_can_finish, run_can_finish, finish_taken_there, ran, finished_whole}
use Rattle.demands.proofs.Laws.Tags.{Holds}
use Rattle.demands.specs.Listing.{run, request_built, Finishing, Listing}

pub finishing : Finishing
finishing buffer adds starts =
    finish_taken_there (run buffer adds).bytes (run buffer adds).cursor
    (run_can_finish adds buffer (started buffer).cursor (rw (started_at buffer starts) (start_can_finish buffer starts)))

pub listing : Listing
listing buffer adds words starts =
    let r = ran adds buffer (started buffer).cursor words in
    let h : Holds (run buffer adds).bytes header (run buffer adds).taken (run buffer adds).cursor.at = rw (started_at buffer starts) at r.holds in
    lists (request_built buffer adds).bytes (run buffer adds).cursor.at (run buffer adds).taken (finished_whole (run buffer adds).bytes
    (run buffer adds).cursor (run buffer adds).taken h (finishing buffer adds starts))
