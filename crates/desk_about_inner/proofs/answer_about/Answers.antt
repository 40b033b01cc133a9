-- `desk_about_inner::answer_about` meets its contract.
use Rattle.desk_about_inner.proofs.answer_about.Goals as goal

pub returns-in-Class : goal.returns-in-Class
returns-in-Class c = rw c.in-Class.is c.answer_class.ensures

pub returns-in-Home : goal.returns-in-Home
returns-in-Home c =
    rw c.in-Home.is c.answer_home.ensures

pub returns-in-Even : goal.returns-in-Even
returns-in-Even c = rw c.in-Even.is c.answer_even.ensures

pub returns-in-Place : goal.returns-in-Place
returns-in-Place c = rw c.in-Place.is c.answer_place.ensures

pub returns-in-Step : goal.returns-in-Step
returns-in-Step c =
    rw c.in-Step.is c.answer_step.ensures
