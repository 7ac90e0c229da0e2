use borrow.Author.Rules.{rules}
use Rattle.vcmailbox.proofs.Fits.{add_cursor_fits}
use Rattle.vcmailbox.proofs.Laws.{add_given}
use Rattle.vcmailbox.proofs.build.vc_add.Goals as goal

pub overflow_cast-cursor : goal.overflow_cast-cursor
overflow_cast-cursor c =
    add_cursor_fits _ _ _ _ _ c.add-added.ensures (search rules)

pub returns : goal.returns
returns c = search add_given
