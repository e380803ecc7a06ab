-- One lemma an event.
use Rattle.gup_law_pins.proofs.Pins.{simulates-raise_flag, simulates-pin_page, simulates-make_handle, simulates-unpin_page, simulates-give_handle, simulates-take_handle, simulates-get_reference, simulates-put_reference}
use Rattle.gup_law_pins.proofs.pins_simulate.Goals as goal

pub returns-clause-raise_flag : goal.returns-clause-raise_flag
returns-clause-raise_flag c = λ a p s sound can. simulates-raise_flag s a p sound can

pub returns-clause-pin_page : goal.returns-clause-pin_page
returns-clause-pin_page c = λ a p page entry write long s sound can. simulates-pin_page s a p page entry write long sound can

pub returns-clause-make_handle : goal.returns-clause-make_handle
returns-clause-make_handle c = λ a h s sound can. simulates-make_handle s a h sound can

pub returns-clause-unpin_page : goal.returns-clause-unpin_page
returns-clause-unpin_page c = λ a h f left s sound can. simulates-unpin_page s a h f left sound can

pub returns-clause-give_handle : goal.returns-clause-give_handle
returns-clause-give_handle c = λ a h to s sound can. simulates-give_handle s a h to sound can

pub returns-clause-take_handle : goal.returns-clause-take_handle
returns-clause-take_handle c = λ a h s sound can. simulates-take_handle s a h sound can

pub returns-clause-get_reference : goal.returns-clause-get_reference
returns-clause-get_reference c = λ a p page f k writable s sound can. simulates-get_reference s a p page f k writable sound can

pub returns-clause-put_reference : goal.returns-clause-put_reference
returns-clause-put_reference c = λ a f k s sound can. simulates-put_reference s a f k sound can
