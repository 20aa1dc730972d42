use Rattle.machine_check.proofs.audit_tests.found_by.Goals as goal

pub found_of-requires : goal.found_of-requires
found_of-requires c = (c.args.code.now, c.args.book.now, c.in_ok-verdict.ensures.verdict)
