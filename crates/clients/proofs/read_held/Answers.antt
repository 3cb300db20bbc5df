-- `clients::read_held` meets its contract: idle, unsound or busy. Assumes nothing.
use Rattle.std.proofs.Common.{◌∙◌, sym}
use Rattle.rules.specs.Client.{kind}
use Rattle.clients.proofs.ClientSound.{code_none, code_zero, code_parsed}
use Rattle.clients.proofs.read_held.Goals as goal

pub parse-requires-clause-some : goal.parse-requires-clause-some
unfolding kind
parse-requires-clause-some c = c.if-client-ne0.true

pub returns-then-client-ne0-clause-code : goal.returns-then-client-ne0-clause-code
unfolding kind
returns-then-client-ne0-clause-code c =
    λ few. rw c.ok_or.ensures.value (code_parsed c.args.clients.now c.args.d c.parse.result (rw c.client-client.ensures.own at c.if-client-ne0.true) (rw c.client-client.ensures.own at c.parse.ensures.sound))

pub returns-then-is_idle-clause-code : goal.returns-then-is_idle-clause-code
returns-then-is_idle-clause-code c = λ few. code_zero c.args.clients.now c.args.d (sym c.is_idle.ensures ∙ c.if-is_idle.true)

pub returns-clause-code : goal.returns-clause-code
unfolding kind
returns-clause-code c = λ few. code_none c.args.clients.now c.args.d (rw c.client-client.ensures.own at c.if-client-ne0.false) (sym c.is_idle.ensures ∙ c.if-is_idle.false)
