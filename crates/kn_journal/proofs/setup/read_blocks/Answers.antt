-- The word, the block and the configuration, or where they ended; and then the Revision.
use Rattle.std.specs.Prelude.{Ok, Err}
use Rattle.std.proofs.lemmas.Result.{err_from_is_err_and}
use Rattle.kn_journal.specs.Reading.{unread}
use Rattle.kn_config.specs.Config.{config_of}
use Rattle.kn_journal.specs.Setup.{revision_part}
use Rattle.kn_journal.specs.Telling.{config_error}
use Rattle.kn_journal.proofs.Drawings.{config-no_fault, draws_both, draws_in, draws_more, draws_well}
use Rattle.kn_journal.proofs.ReadBack.{blocks-kept}
use Rattle.kn_journal.proofs.Setups.{blocks-bad, blocks-block_stops, blocks-no_block, blocks-no_word, blocks-revision_stops, blocks-tells, blocks-word_stops, config-bad}
use Rattle.kn_journal.proofs.SetupRests.{blocks-block_rest, blocks-config_rest, blocks-word_rest, config-on_rest, config-rest}
use Rattle.kn_journal.proofs.Texts.{text-more}
use Rattle.kn_journal.proofs.setup.read_blocks.Goals as goal

pub returns-in-Err-clause-tells : goal.returns-in-Err-clause-tells
returns-in-Err-clause-tells g c =
    blocks-no_word c.args.line.items c.args.slots c.args.lines.now.number (unread c.args.lines.now.input (g.S.Source.left c.args.source.now)) c.in-Err.e c.in-Err.ensures.tells

pub returns-in-Err-clause-source : goal.returns-in-Err-clause-source
returns-in-Err-clause-source g c =
    draws_in c.in-Err.ensures.source (λ h.
    blocks-word_stops c.args.line.items c.args.slots c.args.lines.now.number (unread c.args.lines.now.input (g.S.Source.left c.args.source.now))
    (unread c.read_word.new.lines.input (g.S.Source.left c.read_word.new.source)) h)

pub returns-in_err-block-clause-tells : goal.returns-in_err-block-clause-tells
returns-in_err-block-clause-tells g c =
    let p = err_from_is_err_and c.from_residual.result c.from_residual.ensures.1 in
    rw (p.1, p.2)
    (blocks-no_block c.args.line.items c.args.slots c.args.lines.now.number c.read_word.new.lines.number (unread c.args.lines.now.input (g.S.Source.left c.args.source.now))
    (unread c.read_word.new.lines.input (g.S.Source.left c.read_word.new.source)) c.in-Ok.field-0 c.in_err-block.field-0.0 c.in-Ok.ensures.tells c.in_err-block.ensures.tells)

pub returns-in_err-block-clause-source : goal.returns-in_err-block-clause-source
returns-in_err-block-clause-source g c =
    let p = err_from_is_err_and c.from_residual.result c.from_residual.ensures.1 in
    rw (p.1, p.2)
    (draws_more c.in-Ok.ensures.source c.in_err-block.ensures.source (λ h.
    blocks-block_stops c.args.line.items c.args.slots c.args.lines.now.number c.read_word.new.lines.number c.read_word.new.lines.cut (unread c.args.lines.now.input (g.S.Source.left c.args.source.now))
    (unread c.read_word.new.lines.input (g.S.Source.left c.read_word.new.source)) (unread c.read_block.new.lines.input (g.S.Source.left c.read_block.new.source))
    c.in-Ok.field-0 c.in-Ok.ensures.tells c.in-Ok.ensures.text (c.in_err-block.ensures.source.amid h)))

pub returns-in-Err-read-clause-tells : goal.returns-in-Err-read-clause-tells
returns-in-Err-read-clause-tells g c =
    let k = c.read_block.new.lines.number in
    let after = unread c.read_block.new.lines.input (g.S.Source.left c.read_block.new.source) in
    let block = c.in_ok-block.block in
    blocks-bad c.args.line.items c.args.slots c.args.lines.now.number c.read_word.new.lines.number k (unread c.args.lines.now.input (g.S.Source.left c.args.source.now))
    (unread c.read_word.new.lines.input (g.S.Source.left c.read_word.new.source)) after c.in-Ok.field-0 block c.config_error.result c.in-Ok.ensures.tells c.in_ok-block.ensures.tells
    (rw (c.config_error.ensures, c.number.ensures) (config-bad k c.in-Err-read.why (config_of block) (λ ls config. revision_part c.args.line.items block c.args.slots config k ls) after (rw c.bytes.ensures at c.in-Err-read.ensures.gives)))

pub returns-in-Ok-read_revision-clause-tells : goal.returns-in-Ok-read_revision-clause-tells
returns-in-Ok-read_revision-clause-tells g c =
    blocks-tells c.args.line.items c.args.slots c.args.lines.now.number c.read_word.new.lines.number c.read_block.new.lines.number c.read_revision.new.lines.number
    (unread c.args.lines.now.input (g.S.Source.left c.args.source.now)) (unread c.read_word.new.lines.input (g.S.Source.left c.read_word.new.source))
    (unread c.read_block.new.lines.input (g.S.Source.left c.read_block.new.source)) (unread c.read_revision.new.lines.input (g.S.Source.left c.read_revision.new.source))
    c.in-Ok.field-0 c.in_ok-block.block c.in-Ok-read.config (Ok c.in-Ok-read_revision.setup) c.in-Ok.ensures.tells c.in_ok-block.ensures.tells (rw c.bytes.ensures at c.in-Ok-read.ensures.gives)
    c.in-Ok-read_revision.ensures.tells

pub returns-clause-tells : goal.returns-clause-tells
returns-clause-tells g c =
    blocks-tells c.args.line.items c.args.slots c.args.lines.now.number c.read_word.new.lines.number c.read_block.new.lines.number c.read_revision.new.lines.number
    (unread c.args.lines.now.input (g.S.Source.left c.args.source.now)) (unread c.read_word.new.lines.input (g.S.Source.left c.read_word.new.source))
    (unread c.read_block.new.lines.input (g.S.Source.left c.read_block.new.source)) (unread c.read_revision.new.lines.input (g.S.Source.left c.read_revision.new.source))
    c.in-Ok.field-0 c.in_ok-block.block c.in-Ok-read.config (Err c.in-Err-read_revision.e) c.in-Ok.ensures.tells c.in_ok-block.ensures.tells (rw c.bytes.ensures at c.in-Ok-read.ensures.gives)
    c.in-Err-read_revision.ensures.tells

pub returns-clause-source : goal.returns-clause-source
returns-clause-source g c =
    draws_more (draws_both c.in-Ok.ensures.source c.in_ok-block.ensures.source) c.in-Err-read_revision.ensures.source (λ h.
    blocks-revision_stops c.args.line.items c.args.slots c.args.lines.now.number c.read_word.new.lines.number c.read_block.new.lines.number c.read_word.new.lines.cut c.read_block.new.lines.cut
    (unread c.args.lines.now.input (g.S.Source.left c.args.source.now)) (unread c.read_word.new.lines.input (g.S.Source.left c.read_word.new.source))
    (unread c.read_block.new.lines.input (g.S.Source.left c.read_block.new.source)) (unread c.read_revision.new.lines.input (g.S.Source.left c.read_revision.new.source))
    c.in-Ok.field-0 c.in_ok-block.block c.in-Ok-read.config c.in-Ok.ensures.tells c.in-Ok.ensures.text c.in_ok-block.ensures.tells c.in_ok-block.ensures.text (rw c.bytes.ensures at c.in-Ok-read.ensures.gives)
    (c.in-Err-read_revision.ensures.source.amid h))

pub returns-in-Ok-read_revision-clause-kept : goal.returns-in-Ok-read_revision-clause-kept
returns-in-Ok-read_revision-clause-kept g c =
    blocks-kept c.args.line.items c.in_ok-block.block c.args.slots c.in-Ok-read.config c.in-Ok-read_revision.setup c.in_ok-block.ensures.kept
    (rw c.bytes.ensures at c.in-Ok-read.ensures.gives) c.in-Ok-read_revision.ensures.kept

pub returns-in-Err-clause-rest : goal.returns-in-Err-clause-rest
returns-in-Err-clause-rest g c is = blocks-word_rest c.args.line.items c.args.slots c.args.lines.now.number c.in-Err.e (unread c.args.lines.now.input (g.S.Source.left c.args.source.now)) (unread c.read_word.new.lines.input (g.S.Source.left c.read_word.new.source)) (c.in-Err.ensures.rest is)

pub returns-in_err-block-clause-rest : goal.returns-in_err-block-clause-rest
returns-in_err-block-clause-rest g c =
    let p = err_from_is_err_and c.from_residual.result c.from_residual.ensures.1 in
    rw (p.1, p.2)
    (λ is. blocks-block_rest c.args.line.items c.args.slots c.args.lines.now.number c.read_word.new.lines.number c.in_err-block.field-0.0 (unread c.args.lines.now.input (g.S.Source.left c.args.source.now))
    (unread c.read_word.new.lines.input (g.S.Source.left c.read_word.new.source)) (unread c.read_block.new.lines.input (g.S.Source.left c.read_block.new.source))
    c.in-Ok.field-0 c.in-Ok.ensures.tells (c.in_err-block.ensures.rest is))

pub returns-in-Err-read-clause-rest : goal.returns-in-Err-read-clause-rest
returns-in-Err-read-clause-rest g c =
    let k = c.read_block.new.lines.number in
    let after = unread c.read_block.new.lines.input (g.S.Source.left c.read_block.new.source) in
    let block = c.in_ok-block.block in
    rw (c.config_error.ensures, c.number.ensures) (λ is. blocks-config_rest c.args.line.items c.args.slots c.args.lines.now.number c.read_word.new.lines.number k (config_error k c.in-Err-read.why) (unread c.args.lines.now.input (g.S.Source.left c.args.source.now))
    (unread c.read_word.new.lines.input (g.S.Source.left c.read_word.new.source)) after after c.in-Ok.field-0 block c.in-Ok.ensures.tells c.in_ok-block.ensures.tells
    (config-rest k c.in-Err-read.why (config_of block) (λ ls config. revision_part c.args.line.items block c.args.slots config k ls) after (rw c.bytes.ensures at c.in-Err-read.ensures.gives) is))

pub returns-clause-rest : goal.returns-clause-rest
returns-clause-rest g c is =
    let k = c.read_block.new.lines.number in
    let after = unread c.read_block.new.lines.input (g.S.Source.left c.read_block.new.source) in
    let new = unread c.read_revision.new.lines.input (g.S.Source.left c.read_revision.new.source) in
    let block = c.in_ok-block.block in
    blocks-config_rest c.args.line.items c.args.slots c.args.lines.now.number c.read_word.new.lines.number k c.in-Err-read_revision.e (unread c.args.lines.now.input (g.S.Source.left c.args.source.now))
    (unread c.read_word.new.lines.input (g.S.Source.left c.read_word.new.source)) after new c.in-Ok.field-0 block c.in-Ok.ensures.tells c.in_ok-block.ensures.tells
    (config-on_rest k c.in-Err-read_revision.e c.in-Ok-read.config (config_of block) (λ ls config. revision_part c.args.line.items block c.args.slots config k ls) after new
    (rw c.bytes.ensures at c.in-Ok-read.ensures.gives) (c.in-Err-read_revision.ensures.rest is))

pub returns-in-Err-read-clause-source : goal.returns-in-Err-read-clause-source
returns-in-Err-read-clause-source g c =
    draws_well (rw c.config_error.ensures (config-no_fault c.number.result c.in-Err-read.why)) (draws_both c.in-Ok.ensures.source c.in_ok-block.ensures.source)

pub returns-in-Ok-read_revision-clause-source : goal.returns-in-Ok-read_revision-clause-source
returns-in-Ok-read_revision-clause-source g c =
    draws_well tt (draws_both (draws_both c.in-Ok.ensures.source c.in_ok-block.ensures.source) c.in-Ok-read_revision.ensures.source)

pub returns-in-Ok-read_revision-clause-text : goal.returns-in-Ok-read_revision-clause-text
returns-in-Ok-read_revision-clause-text g c =
    let old = unread c.args.lines.now.input (g.S.Source.left c.args.source.now) in
    let mid = unread c.read_word.new.lines.input (g.S.Source.left c.read_word.new.source) in
    let after = unread c.read_block.new.lines.input (g.S.Source.left c.read_block.new.source) in
    let new = unread c.read_revision.new.lines.input (g.S.Source.left c.read_revision.new.source) in
    let both = text-more c.read_word.new.lines.cut c.read_block.new.lines.cut old mid after c.in-Ok.ensures.text c.in_ok-block.ensures.text in
    text-more c.read_block.new.lines.cut c.read_revision.new.lines.cut old after new both c.in-Ok-read_revision.ensures.text
