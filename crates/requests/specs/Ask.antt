-- Describes code: a request as `ask_at` gives it, by the length of its bytes.
use Rattle.std.specs.Prelude.{length}
use Rattle.table.specs.declared.kinds.Kind.{Kind}
use Rattle.requests.specs.Requests.{Request, passed, short, asks}
use Rattle.requests.specs.declared.ask.Ask.{Ask}

unfoldable pub ask_of : Request → Ask
ask_of passed = Ask.Pass
ask_of short = Ask.Short
ask_of (asks (Kind.Outside t) request) = Ask.Outside t (length request)
ask_of (asks (Kind.Group t) request) = Ask.Group t (length request)
