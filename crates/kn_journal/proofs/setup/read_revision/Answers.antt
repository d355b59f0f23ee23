-- The word, the block and the Revision, or where they ended.
use Rattle.std.proofs.Common.{subst, sym}
use Rattle.std.specs.Prelude.{Ok, Err, Some}
use Rattle.std.proofs.lemmas.Result.{err_from_is_err_and}
use Rattle.kn_journal.specs.declared.error.JournalError.{JournalError}
use Rattle.kn_journal.specs.Reading.{unread}
use Rattle.kn_journal.specs.Setup.{blocks_text}
use Rattle.kn_journal.specs.Telling.{revision_error}
use Rattle.kn_revision.specs.Revision.{spec_of}
use Rattle.kn_journal.proofs.Drawings.{IsNoFault, draws_both, draws_in, draws_more, draws_well, revision-no_fault}
use Rattle.kn_journal.proofs.ReadBack.{revision-kept}
use Rattle.kn_journal.proofs.Setups.{revision-block_stops, revision-no_block, revision-no_word, revision-tells, revision-word_stops, spec-bad, spec-good}
use Rattle.kn_journal.proofs.SetupRests.{revision-block_rest, revision-spec_rest, revision-word_rest, spec-rest}
use Rattle.kn_journal.proofs.Texts.{text-more}
use Rattle.kn_journal.proofs.setup.read_revision.Goals as goal

pub returns-in-Err-clause-tells : goal.returns-in-Err-clause-tells
returns-in-Err-clause-tells g c =
    revision-no_word c.args.line.items c.args.block.now c.args.slots c.args.config.now c.args.lines.now.number (unread c.args.lines.now.input (g.S.Source.left c.args.source.now))
    c.in-Err.e c.in-Err.ensures.tells

pub returns-in-Err-clause-source : goal.returns-in-Err-clause-source
returns-in-Err-clause-source g c =
    draws_in c.in-Err.ensures.source (λ h.
    revision-word_stops c.args.line.items c.args.block.now c.args.slots c.args.config.now c.args.lines.now.number (unread c.args.lines.now.input (g.S.Source.left c.args.source.now))
    (unread c.read_word.new.lines.input (g.S.Source.left c.read_word.new.source)) h)

pub returns-in_err-revision-clause-tells : goal.returns-in_err-revision-clause-tells
returns-in_err-revision-clause-tells g c =
    let p = err_from_is_err_and c.from_residual.result c.from_residual.ensures.1 in
    rw (p.1, p.2)
    (revision-no_block c.args.line.items c.args.block.now c.args.slots c.args.config.now c.args.lines.now.number c.read_word.new.lines.number (unread c.args.lines.now.input (g.S.Source.left c.args.source.now))
    (unread c.read_word.new.lines.input (g.S.Source.left c.read_word.new.source)) c.in-Ok.field-0 c.in_err-revision.field-0.0 c.in-Ok.ensures.tells c.in_err-revision.ensures.tells)

pub returns-in_err-revision-clause-source : goal.returns-in_err-revision-clause-source
returns-in_err-revision-clause-source g c =
    let p = err_from_is_err_and c.from_residual.result c.from_residual.ensures.1 in
    rw (p.1, p.2)
    (draws_more c.in-Ok.ensures.source c.in_err-revision.ensures.source (λ h.
    revision-block_stops c.args.line.items c.args.block.now c.args.slots c.args.config.now c.args.lines.now.number c.read_word.new.lines.number c.read_word.new.lines.cut (unread c.args.lines.now.input (g.S.Source.left c.args.source.now))
    (unread c.read_word.new.lines.input (g.S.Source.left c.read_word.new.source)) (unread c.read_block.new.lines.input (g.S.Source.left c.read_block.new.source))
    c.in-Ok.field-0 c.in-Ok.ensures.tells c.in-Ok.ensures.text (c.in_err-revision.ensures.source.amid h)))

pub returns-in-Err-resolve-clause-tells : goal.returns-in-Err-resolve-clause-tells
returns-in-Err-resolve-clause-tells g c =
    let k = c.read_block.new.lines.number in
    let new = unread c.read_block.new.lines.input (g.S.Source.left c.read_block.new.source) in
    let text = c.in_ok-revision.revision in
    rw (c.revision_error.ensures, c.number.ensures) (revision-tells c.args.line.items c.args.block.now c.args.slots c.args.config.now c.args.lines.now.number c.read_word.new.lines.number k
    (unread c.args.lines.now.input (g.S.Source.left c.args.source.now)) (unread c.read_word.new.lines.input (g.S.Source.left c.read_word.new.source)) new c.in-Ok.field-0 text (Err (revision_error k c.in-Err-resolve.why))
    c.in-Ok.ensures.tells c.in_ok-revision.ensures.tells
    (spec-bad k (blocks_text c.args.line.items c.args.block.now text) c.in-Err-resolve.why (spec_of c.args.config.now text c.args.slots) new (rw c.bytes.ensures at c.in-Err-resolve.ensures.gives)))

pub returns-in-Ok-with_blocks-clause-tells : goal.returns-in-Ok-with_blocks-clause-tells
returns-in-Ok-with_blocks-clause-tells g c =
    let k = c.read_block.new.lines.number in
    let new = unread c.read_block.new.lines.input (g.S.Source.left c.read_block.new.source) in
    let text = c.in_ok-revision.revision in
    revision-tells c.args.line.items c.args.block.now c.args.slots c.args.config.now c.args.lines.now.number c.read_word.new.lines.number k
    (unread c.args.lines.now.input (g.S.Source.left c.args.source.now)) (unread c.read_word.new.lines.input (g.S.Source.left c.read_word.new.source)) new c.in-Ok.field-0 text (Ok c.in-Ok-with_blocks.setup)
    c.in-Ok.ensures.tells c.in_ok-revision.ensures.tells
    (spec-good k (blocks_text c.args.line.items c.args.block.now text) c.in-Ok-resolve.spec (spec_of c.args.config.now text c.args.slots) c.in-Ok-with_blocks.setup new (rw c.bytes.ensures at c.in-Ok-resolve.ensures.gives)
    (rw (c.bytes-2.ensures, c.bytes-3.ensures) at c.in-Ok-with_blocks.ensures.ok))

pub returns-in-Ok-with_blocks-clause-kept : goal.returns-in-Ok-with_blocks-clause-kept
returns-in-Ok-with_blocks-clause-kept g c =
    revision-kept c.args.line.items c.args.block.now c.in_ok-revision.revision c.args.slots c.args.config.now c.in-Ok-resolve.spec c.in-Ok-with_blocks.setup c.in_ok-revision.ensures.kept
    (rw c.bytes.ensures at c.in-Ok-resolve.ensures.gives) (rw (c.bytes-2.ensures, c.bytes-3.ensures) at c.in-Ok-with_blocks.ensures.ok)

pub returns-in-Err-clause-rest : goal.returns-in-Err-clause-rest
returns-in-Err-clause-rest g c is =
    revision-word_rest c.args.line.items c.args.block.now c.args.slots c.args.config.now c.args.lines.now.number c.in-Err.e (unread c.args.lines.now.input (g.S.Source.left c.args.source.now)) (unread c.read_word.new.lines.input (g.S.Source.left c.read_word.new.source)) (c.in-Err.ensures.rest is)

pub returns-in_err-revision-clause-rest : goal.returns-in_err-revision-clause-rest
returns-in_err-revision-clause-rest g c =
    let p = err_from_is_err_and c.from_residual.result c.from_residual.ensures.1 in
    rw (p.1, p.2)
    (λ is. revision-block_rest c.args.line.items c.args.block.now c.args.slots c.args.config.now c.args.lines.now.number c.read_word.new.lines.number c.in_err-revision.field-0.0 (unread c.args.lines.now.input (g.S.Source.left c.args.source.now))
    (unread c.read_word.new.lines.input (g.S.Source.left c.read_word.new.source)) (unread c.read_block.new.lines.input (g.S.Source.left c.read_block.new.source))
    c.in-Ok.field-0 c.in-Ok.ensures.tells (c.in_err-revision.ensures.rest is))

pub returns-in-Err-resolve-clause-rest : goal.returns-in-Err-resolve-clause-rest
returns-in-Err-resolve-clause-rest g c =
    let k = c.read_block.new.lines.number in
    let new = unread c.read_block.new.lines.input (g.S.Source.left c.read_block.new.source) in
    let text = c.in_ok-revision.revision in
    rw (c.revision_error.ensures, c.number.ensures) (λ is. revision-spec_rest c.args.line.items c.args.block.now c.args.slots c.args.config.now c.args.lines.now.number c.read_word.new.lines.number k (revision_error k c.in-Err-resolve.why)
    (unread c.args.lines.now.input (g.S.Source.left c.args.source.now)) (unread c.read_word.new.lines.input (g.S.Source.left c.read_word.new.source)) new c.in-Ok.field-0 text c.in-Ok.ensures.tells c.in_ok-revision.ensures.tells
    (spec-rest k (blocks_text c.args.line.items c.args.block.now text) c.in-Err-resolve.why (spec_of c.args.config.now text c.args.slots) new (rw c.bytes.ensures at c.in-Err-resolve.ensures.gives) is))

pub returns-in-Err-resolve-clause-source : goal.returns-in-Err-resolve-clause-source
returns-in-Err-resolve-clause-source g c =
    draws_well (rw c.revision_error.ensures (revision-no_fault c.number.result c.in-Err-resolve.why)) (draws_both c.in-Ok.ensures.source c.in_ok-revision.ensures.source)

pub returns-in-Ok-with_blocks-clause-source : goal.returns-in-Ok-with_blocks-clause-source
returns-in-Ok-with_blocks-clause-source g c = draws_well tt (draws_both c.in-Ok.ensures.source c.in_ok-revision.ensures.source)

pub returns-clause-source : goal.returns-clause-source
returns-clause-source g c =
    draws_well (subst (λ (x : JournalError). IsNoFault (Some x)) (sym c.in-Err-with_blocks.ensures.err) tt) (draws_both c.in-Ok.ensures.source c.in_ok-revision.ensures.source)

pub returns-in-Ok-with_blocks-clause-text : goal.returns-in-Ok-with_blocks-clause-text
returns-in-Ok-with_blocks-clause-text g c =
    text-more c.read_word.new.lines.cut c.read_block.new.lines.cut (unread c.args.lines.now.input (g.S.Source.left c.args.source.now)) (unread c.read_word.new.lines.input (g.S.Source.left c.read_word.new.source))
    (unread c.read_block.new.lines.input (g.S.Source.left c.read_block.new.source)) c.in-Ok.ensures.text c.in_ok-revision.ensures.text
