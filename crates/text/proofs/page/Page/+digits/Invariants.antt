-- `text::page::Page::digits` meets its contract. Assumes nothing.
use Rattle.text.proofs.page.Page.+digits.Given as goal

abbrev pub decreases-digits : goal.decreases-digits
decreases-digits l = l.f
