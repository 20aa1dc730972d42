use Rattle.detector_laws.proofs.News.{hear_news, scan_news, reap_news, heard_rising, closed_rising}
use Rattle.detector_laws.proofs.laws.detector_keeps.Goals as goal

pub returns-clause-hear_news : goal.returns-clause-hear_news
returns-clause-hear_news c = hear_news

pub returns-clause-scan_news : goal.returns-clause-scan_news
returns-clause-scan_news c = scan_news

pub returns-clause-reap_news : goal.returns-clause-reap_news
returns-clause-reap_news c = reap_news

pub returns-clause-hear_order : goal.returns-clause-hear_order
returns-clause-hear_order c = heard_rising

pub returns-clause-reap_order : goal.returns-clause-reap_order
returns-clause-reap_order c = closed_rising
