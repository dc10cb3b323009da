-- The words are refused or couldn't be read, or what they ask for is done.
use Rattle.std.proofs.Common.{refl}
use Rattle.dvc_cli.specs.Words.{asked}
use Rattle.dvc_cli.proofs.CommandLemmas.{refused_does, refused_puts, words_refusal, words_halted, words_answers}
use Rattle.dvc_cli.proofs.command.perform.Goals as goal

-- ---- words that can't be read

pub returns-in-Err-clause-does : goal.returns-in-Err-clause-does
returns-in-Err-clause-does g c = λ t.
    let request = asked c.args.words.now in
    let h = g.W.Ground.history c.args.world.now in
    let read = c.in-Err.ensures.exact in
    refused_does request _ h h refl (words_refusal request h.present.tree _ read) (words_halted request _ h.present read)

pub returns-in-Err-clause-refuses : goal.returns-in-Err-clause-refuses
returns-in-Err-clause-refuses g c = λ t some.
    (words_refusal (asked c.args.words.now) (g.W.Ground.history c.args.world.now).present.tree _ c.in-Err.ensures.exact, refl)

pub returns-in-Err-clause-kinds : goal.returns-in-Err-clause-kinds
returns-in-Err-clause-kinds g c = words_answers (asked c.args.words.now) g.W.Ground.tells _ c.in-Err.ensures.exact

pub returns-in-Err-clause-puts : goal.returns-in-Err-clause-puts
returns-in-Err-clause-puts g c = λ k.
    let request = asked c.args.words.now in
    let h = g.W.Ground.history c.args.world.now in
    refused_puts request g.W.Ground.tells _ h h _ (λ t. words_refusal request h.present.tree _ c.in-Err.ensures.exact)
